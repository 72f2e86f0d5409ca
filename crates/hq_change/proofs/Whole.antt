-- Jobs as values, and all levels one behind another.
use Rattle.std.proofs.Common.{Bool, ◌≡◌, ℕ, zero, suc, ◌<◌, ◌≤◌, inl, inr, List, [], ◌∷◌, length, map, replicate, refl, sym, ◌∙◌, subst, arith, Some, None, slice_get, slice_index_or}
use Rattle.std.specs.Prelude.{Result, Ok, Err, IfOk}
use Rattle.std.proofs.lemmas.Bool.{cases_lt}
use Rattle.std.proofs.lemmas.List.{length-map, get_or_past}
use Rattle.std.proofs.lemmas.Option.{slice_get_past}
use Rattle.hq_packet.specs.declared.packet.Head.{Head}
use Rattle.hq_packet.specs.Parts as parts
use Rattle.hq_tables.specs.declared.rows.Placed.{Placed}
use Rattle.hq_job.specs.Plan.{plan, planned}
use Rattle.hq_job.specs.Heads.{heads_of}
use Rattle.hq_job.specs.Value.{JobValue}
use Rattle.hq_model.specs.Job.{Job, Packet, no_packet, IsPacket}
use Rattle.hq_model.specs.Fence.{Ordered}
use Rattle.hq_model.specs.Settings.{SameButHeads, head_of, head_at, highest, no_head, HeadRaises, Raises}
use Rattle.hq_model.proofs.SettingsKept.{same_length, packets_same, heads_leave_conflicts}
use Rattle.hq_model.proofs.SettingsSteps.{raises_on, highest_is_highest}
use Rattle.hq_parts.specs.Parts.{AreParts, NeverConflict, TellConflicts}
use Rattle.hq_parts.specs.declared.parts.Touch.{Touch}
use Rattle.hq_parts.specs.declared.parts.Parts.{Parts}
use Rattle.hq_change.specs.declared.level.Level.{Level}
use Rattle.hq_change.specs.declared.level.Level.TheVariants as level
use Rattle.hq_change.specs.Levels.{IsAt, part_of, AreLowered}
use Rattle.hq_order.specs.declared.before.Rounds.{Rounds}
use Rattle.hq_change.specs.Foresight.{BitsSettled}
use Rattle.hq_change.specs.Minimal.{Attempted, AtOrAbove, IsMinimal, IsTrimmed, IsFixed, IsOn, Settled, SettledFrom}
use Rattle.hq_change.proofs.Single.{none_is_lowest}
use Rattle.hq_change.proofs.Staying.{settled_stays, each_part, release_settled, acquire_settled, bits_settled, minimal_of}

-- ---- plans of values

pub is_planned : (job : JobValue) (p : ℕ) → p < length job.packets → IsPacket (plan job) p
is_planned job p low = omega (arith, low, length-map job.packets planned)

pub packet_kept : (j k : Job) (p : ℕ) → SameButHeads j k → IsPacket j p → IsPacket k p
packet_kept j k p same is = omega (arith, is, same_length j.packets k.packets (packets_same j k same))

head_there : (xs : List Placed) (p : ℕ) → p < length (map planned xs) → slice_get (map (λ (x : Placed). parts.head_of x.packet) xs) p ≡ Some (head_of (slice_index_or (map planned xs) p no_packet))
head_there [] p low = absurd (omega (arith, low))
head_there (x ∷ xs) zero low = refl
head_there (x ∷ xs) (suc p) low = head_there xs p (omega (arith, low))

pub heads_are : (job : JobValue) (p : ℕ) → IsPacket (plan job) p → slice_get (heads_of job) p ≡ Some (head_at (plan job) p)
heads_are job p is = head_there job.packets p is

pub as_many_heads : (job : JobValue) → length (heads_of job) ≡ length (plan job).packets
as_many_heads job = length-map job.packets (λ (x : Placed). parts.head_of x.packet) ∙ sym (length-map job.packets planned)

pub starts_on : (floor : List Head) (job : JobValue) → length floor ≡ length job.packets → AtOrAbove floor (plan job) → Ordered (plan job) → IsOn floor (plan job) (heads_of job)
starts_on floor job floored above ordered = record {
  len = as_many_heads job;
  floored = floored ∙ sym (length-map job.packets planned);
  has = heads_are job;
  above = above;
  ordered = ordered;
}

-- ---- which packets may conflict rests on no head

pub parts_stay : (j k : Job) (ps : Parts) → SameButHeads j k → AreParts j ps → AreParts k ps
parts_stay j k ps same h = record {
  few = h.few;
  tell = stays ps.packets.items h.tell;
  fine = stays ps.fine.items h.fine;
  tables = h.tables;
}
  where
    never : (a b : ℕ) → NeverConflict j a b → NeverConflict k a b
    never a b n kind c = n kind ((heads_leave_conflicts j k kind a b same).1 c)

    stays : (touches : List Touch) → TellConflicts j touches → TellConflicts k touches
    stays touches told = record { len = told.len ∙ same_length j.packets k.packets (packets_same j k same); apart = λ a b t u e f g. never a b (told.apart a b t u e f g) }

-- ---- all levels

pub all_levels : (floor : List Head) (a b c d e : Job) → Raises b a → Raises c b → Raises d c
    → SettledFrom level.ReleaseSystem floor a 0 → SettledFrom level.AcquireSystem floor b 0 → SettledFrom level.ReleaseAgent floor c 0 → SettledFrom level.AcquireAgent floor d 0
    → length floor ≡ length e.packets → BitsSettled floor d e → IsMinimal floor e
all_levels floor a b c d e ba cb dc ra ab rc ad floored bits = minimal_of floor e floored
    (each_part floor e
    (λ p is. release_settled floor a c e ca ec ra rc p (packet_kept e a p (raises_on e c a ec ca).same is))
    (λ p is. acquire_settled floor b d e db ed ab ad p (packet_kept e b p (raises_on e d b ed db).same is))
    (λ p is. bits_settled floor e bits.all.settled p is))
    bits.all.above bits.ordered
  where
    ed : Raises e d
    ed = bits.all.below

    ca : Raises c a
    ca = raises_on c b a cb ba

    db : Raises d b
    db = raises_on d c b dc cb

    ec : Raises e c
    ec = raises_on e d c ed dc

pub floored_below : (floor : List Head) (j k : Job) → length floor ≡ length j.packets → Raises k j → length floor ≡ length k.packets
floored_below floor j k floored below = floored ∙ sym (same_length k.packets j.packets (packets_same k j below.same))

-- ---- what is answered

-- a floor on which nothing stands
abbrev pub IsGround : List Head → Type 0
IsGround floor = (p : ℕ) (low : Head) → slice_get floor p ≡ Some low → low ≡ no_head

replicated : (n p : ℕ) (low : Head) → slice_get (replicate n no_head) p ≡ Some low → low ≡ no_head
replicated zero p low e = let never : ⊥ = cc (e) in absurd never
replicated (suc n) zero low e = cc (e)
replicated (suc n) (suc p) low e = replicated n p low e

pub ground_of : (floor : List Head) (n : ℕ) → floor ≡ replicate n no_head → IsGround floor
ground_of floor n e p low f = replicated n p low (subst (λ xs. slice_get xs p ≡ Some low) e f)

pub above_ground : (floor : List Head) (k : Job) → IsGround floor → AtOrAbove floor k
above_ground floor k ground p low e = subst (λ h. HeadRaises h (head_at k p)) (sym (ground p low e)) (none_is_lowest (head_at k p))

pub trimmed_of : (floor : List Head) (job k : Job) → IsGround floor → IsMinimal floor k → Raises k job → IsTrimmed job k
trimmed_of floor job k ground h below = record { below = below; ordered = h.ordered; least = λ m up o. h.least m (above_ground floor m ground) up o }

module _ (job : JobValue) where
  floor_below : (k : Job) → ((p : ℕ) → HeadRaises (head_at (plan job) p) (head_at k p)) → AtOrAbove (heads_of job) k
  floor_below k up p low e = elim (cases_lt p (length (plan job).packets)) [
    | inl is ↦ subst (λ h. HeadRaises h (head_at k p)) (low_is is) (up p)
    | inr past ↦ absurd (cc (sym (past_none past) ∙ e))
  ]
    where
      low_is : IsPacket (plan job) p → head_at (plan job) p ≡ low
      low_is is = cc (sym (heads_are job p is) ∙ e)

      past_none : length (plan job).packets ≤ p → slice_get (heads_of job) p ≡ None
      past_none past = slice_get_past (heads_of job) p (omega (arith, past, as_many_heads job))

  pub floor_of_highest : AtOrAbove (heads_of job) (highest (plan job))
  floor_of_highest = floor_below (highest (plan job)) (highest_is_highest (plan job) (plan job) refl).heads

  pub fixed_of : (k : Job) → IsMinimal (heads_of job) k → Raises k (highest (plan job)) → IsFixed (plan job) k
  fixed_of k h below = record { above = record { same = same; heads = heads }; ordered = h.ordered; least = λ m up more o. h.least m (floor_below m up.heads) more o }
    where
      same : SameButHeads (plan job) k
      same = (highest_is_highest (plan job) (plan job) refl).same ∙ sym below.same

      heads : (p : ℕ) → HeadRaises (head_at (plan job) p) (head_at k p)
      heads p = elim (cases_lt p (length (plan job).packets)) [
        | inl is ↦ h.above p (head_at (plan job) p) (heads_are job p is)
        | inr past ↦ subst (λ (e : Packet). HeadRaises (head_of e) (head_at k p)) (sym (get_or_past (plan job).packets p no_packet (omega (arith, past)))) (none_is_lowest (head_at k p))
      ]

pub fixed_if : {A E : Type 0} (job : JobValue) (floor : List Head) (top k : Job) (r : Result A E) → floor ≡ heads_of job → top ≡ highest (plan job) → IfOk r (λ _. IsMinimal floor k) → IfOk r (λ _. Raises k top) → IfOk r (λ _. IsFixed (plan job) k)
fixed_if job floor top k (Ok x) e f h below = fixed_of job k (subst (λ x. IsMinimal x k) e h) (subst (Raises k) f below)
fixed_if job floor top k (Err x) e f h below = tt

pub trimmed_if : {A E : Type 0} (floor : List Head) (job k : Job) (r : Result A E) → IsGround floor → IfOk r (λ _. IsMinimal floor k) → IfOk r (λ _. Raises k job) → IfOk r (λ _. IsTrimmed job k)
trimmed_if floor job k (Ok x) ground h below = trimmed_of floor job k ground h below
trimmed_if floor job k (Err x) ground h below = tt

-- ---- while one level is settled

pub as_many_values : (j k : JobValue) → SameButHeads (plan j) (plan k) → length j.packets ≡ length k.packets
as_many_values j k same = omega (arith, same_length (plan j).packets (plan k).packets (packets_same (plan j) (plan k) same), length-map j.packets planned, length-map k.packets planned)

module _ (l : Level) (floor : List Head) (to : ℕ) (now new : Job) (below : Raises new now) (outside : (p : ℕ) → to ≤ p → head_at new p ≡ head_at now p) (settled : SettledFrom l floor now to) where
  pub settled_kept : SettledFrom l floor new to
  settled_kept p above is at =
      let there = packet_kept new now p below.same is in
      settled_stays floor new now p (part_of l) there below (settled p above there (subst (IsAt l) (outside p above) at))

  pub settled_more : (from : ℕ) → ((p : ℕ) → from ≤ p → p < to → IsAt l (head_at new p) → Settled floor new p (part_of l)) → SettledFrom l floor new from
  settled_more from here p above is at = elim (cases_lt p to) [
    | inl low ↦ here p above low at
    | inr high ↦ settled_kept p (omega (arith, high)) is at
  ]

-- ---- an attempt as code has it

pub room_of : (job : JobValue) (n : ℕ) → n ≤ length job.packets → n ≤ length (plan job).packets
room_of job n low = omega (arith, low, length-map job.packets planned)

pub lowered_as : (l : Level) (floor : List Head) (from to : ℕ) (old start now new : List Head) → start ≡ old → now ≡ new → AreLowered l floor from to start new → AreLowered l floor from to old now
lowered_as l floor from to old start now new e f h = subst (AreLowered l floor from to old) (sym f) (subst (λ xs. AreLowered l floor from to xs new) e h)

pub attempted_as : (l : Level) (floor : List Head) (from to : ℕ) (old new k : Job) (heads hs : List Head) (rounds : Rounds) (went w : Bool) → k ≡ new → hs ≡ heads → w ≡ went → Attempted l floor from to old new heads rounds went → Attempted l floor from to old k hs rounds w
attempted_as l floor from to old new k heads hs rounds went w e f g h =
    subst (λ x. Attempted l floor from to old x hs rounds w) (sym e) (subst (λ x. Attempted l floor from to old new x rounds w) (sym f) (subst (Attempted l floor from to old new heads rounds) (sym g) h))

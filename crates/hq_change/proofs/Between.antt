-- Jobs some of whose packets' heads were lowered.
use Rattle.std.proofs.Common.{◌≡◌, ◌≢◌, ℕ, ◌+◌, ◌<◌, ◌≤◌, ◌⊎◌, inl, inr, IsTrue, true, false, List, length, refl, sym, ◌∙◌, ap, subst, arith, Some, slice_get, slice_index_or, slice_set}
use Rattle.std.proofs.lemmas.Bool.{cases_eq, cases_lt, true≢false}
use Rattle.std.proofs.lemmas.List.{length-set, get_or-set_same, get_or-set_other}
use Rattle.std.proofs.lemmas.Option.{same_Some, slice_get-get_or, slice_get_within, slice_get_past, get_or_from_slice_get}
use Rattle.hq_packet.specs.declared.packet.Head.{Head}
use Rattle.hq_model.specs.Job.{Job, IsPacket}
use Rattle.hq_model.specs.Order.{OrderList}
use Rattle.hq_model.specs.Fence.{Ordered}
use Rattle.hq_model.specs.Settings.{SameButHeads, head_of, head_at, with_head, no_head, HeadRaises, Raises, lowered, HeadIsSet}
use Rattle.hq_model.proofs.SettingsKept.{same_length, packets_same, heads_leave_lists}
use Rattle.hq_model.proofs.SettingsSteps.{same_by_heads, heads_are_set}
use Rattle.hq_order.specs.declared.before.Rounds.{Rounds}
use Rattle.hq_order.specs.View.{AreOf, SameButScopes}
use Rattle.hq_order.proofs.Scopes.{scopes_leave_rounds}
use Rattle.hq_audit.specs.Refused.{AllShown}
use Rattle.hq_audit.proofs.Certifying.{shown_is_ordered}
use Rattle.hq_change.specs.declared.level.Level.{Level}
use Rattle.hq_change.specs.declared.level.Level.TheVariants as level
use Rattle.hq_change.specs.Levels.{IsAt, part_of, IsLowered, Stays, HeadLowered, AreLowered, SomeOther}
use Rattle.hq_change.specs.Between.{SetBetween}
use Rattle.hq_change.specs.Minimal.{AtOrAbove, Settled, IsOn, Attempted}
use Rattle.hq_change.proofs.Single.{head_itself, lowered_below, lowered_not_at, lowered_bit}

-- ---- lists of heads

get_set_same : (xs : List Head) (i : ℕ) (x : Head) → i < length xs → slice_get (slice_set xs i x) i ≡ Some x
get_set_same xs i x low =
    slice_get-get_or (slice_set xs i x) i no_head (omega (arith, low, length-set xs i x)) ∙ ap (λ h. Some h) (get_or-set_same xs i x no_head low)

get_set_other : (xs : List Head) (i p : ℕ) (x : Head) → p ≢ i → slice_get (slice_set xs i x) p ≡ slice_get xs p
get_set_other xs i p x apart = elim (cases_lt p (length xs)) [
  | inl low ↦ slice_get-get_or (slice_set xs i x) p no_head (omega (arith, low, length-set xs i x)) ∙ ap (λ h. Some h) (get_or-set_other xs i p x no_head apart) ∙ sym (slice_get-get_or xs p no_head low)
  | inr past ↦ slice_get_past (slice_set xs i x) p (omega (arith, past, length-set xs i x)) ∙ sym (slice_get_past xs p (omega (arith, past)))
]

-- a head that was lowered isn't what it was
lowered_apart : (l : Level) (low old new : Head) → IsLowered l low old new → new ≢ old
lowered_apart l low old new x e = lowered_not_at l old x.at (subst (IsAt l) (sym e ∙ x.is) x.at)

module _ (l : Level) (floor : List Head) (from i : ℕ) (old now : List Head) (h : AreLowered l floor from i old now) (above : from ≤ i) (low head : Head) (there : slice_get floor i ≡ Some low) (is : slice_get now i ≡ Some head) where
  as_old : slice_get old i ≡ Some head
  as_old = sym (h.others i (inr (omega arith))) ∙ is

  inside_more : (new : List Head) → ((p : ℕ) → p ≢ i → slice_get new p ≡ slice_get now p) → ((other : Head) × (slice_get new i ≡ Some other) × HeadLowered l low head other) → length new ≡ length now → AreLowered l floor from (i + 1) old new
  inside_more new same here len = record {
    len = len ∙ h.len;
    inside = λ p lo g a b f o. elim (cases_eq p i) [
      | inl e ↦
          let same_low : low ≡ lo = get_same floor i low lo there (ap (slice_get floor) (sym e) ∙ f) in
          let same_head : head ≡ g = get_same old i head g as_old (ap (slice_get old) (sym e) ∙ o) in
          (here.0, ap (slice_get new) e ∙ here.1, subst (λ x. HeadLowered l x g here.0) same_low (subst (λ x. HeadLowered l low x here.0) same_head here.2))
      | inr apart ↦ let x = h.inside p lo g a (omega (arith, b, apart)) f o in (x.0, same p apart ∙ x.1, x.2)
    ];
    others = λ p out. same p (outside p out) ∙ h.others p (wider p out);
  }
    where
      get_same : (xs : List Head) (k : ℕ) (x y : Head) → slice_get xs k ≡ Some x → slice_get xs k ≡ Some y → x ≡ y
      get_same xs k x y e f = sym (get_or_from_slice_get xs k x no_head e) ∙ get_or_from_slice_get xs k y no_head f

      outside : (p : ℕ) → (p < from) ⊎ (i + 1 ≤ p) → p ≢ i
      outside p (inl a) e = omega (arith, a, above, e)
      outside p (inr a) e = omega (arith, a, e)

      wider : (p : ℕ) → (p < from) ⊎ (i + 1 ≤ p) → (p < from) ⊎ (i ≤ p)
      wider p (inl a) = inl a
      wider p (inr a) = inr (omega arith)

  pub one_lowered : (new : Head) → IsLowered l low head new → AreLowered l floor from (i + 1) old (slice_set now i new)
  one_lowered new x = inside_more (slice_set now i new) (λ p apart. get_set_other now i p new apart) (new, get_set_same now i new (slice_get_within now i head is), inl x) (length-set now i new)

  -- and one head is other than it was
  pub one_other : (new : Head) → IsLowered l low head new → SomeOther old (slice_set now i new)
  one_other new x = (i, λ e. lowered_apart l low head new x (same_Some new head (sym (get_set_same now i new (slice_get_within now i head is)) ∙ e ∙ as_old)))

  pub one_stays : Stays l low head → AreLowered l floor from (i + 1) old now
  one_stays x = inside_more now (λ p apart. refl) (head, is, inr (x, refl)) refl

-- ---- jobs whose packets are given heads

pub one_set : (heads : List Head) (from i : ℕ) (old now : Job) (head : Head) → from ≤ i → IsPacket now i → SetBetween heads from i old now → slice_get heads i ≡ Some head → SetBetween heads from (i + 1) old (with_head now i head)
one_set heads from i old now head above is h there = record {
  same = h.same ∙ set.same;
  inside = λ p g a b f. elim (cases_eq p i) [
    | inl e ↦
        let same_head : head ≡ g = sym (get_or_from_slice_get heads i head no_head there) ∙ get_or_from_slice_get heads i g no_head (ap (slice_get heads) (sym e) ∙ f) in
        ap (head_at (with_head now i head)) e ∙ set.here ∙ same_head
    | inr apart ↦ ap head_of (set.others p apart) ∙ h.inside p g a (omega (arith, b, apart)) f
  ];
  others = λ p out. ap head_of (set.others p (outside p out)) ∙ h.others p (wider p out);
}
  where
    set : HeadIsSet now i head
    set = heads_are_set now i head is

    outside : (p : ℕ) → (p < from) ⊎ (i + 1 ≤ p) → p ≢ i
    outside p (inl a) e = omega (arith, a, above, e)
    outside p (inr a) e = omega (arith, a, e)

    wider : (p : ℕ) → (p < from) ⊎ (i + 1 ≤ p) → (p < from) ⊎ (i ≤ p)
    wider p (inl a) = inl a
    wider p (inr a) = inr (omega arith)

-- ---- from a job to the one whose heads are lowered

-- The packets from one number up to another are lowered, where they can be; all else is as it was.
pub record Between (l : Level) (floor : List Head) (from to : ℕ) (old new : Job) : Type 0 where
  pub same : SameButHeads old new
  pub inside : (p : ℕ) (low : Head) → from ≤ p → p < to → slice_get floor p ≡ Some low → HeadLowered l low (head_at old p) (head_at new p)
  pub others : (p : ℕ) → (p < from) ⊎ (to ≤ p) → head_at new p ≡ head_at old p

pub between_of : (l : Level) (floor : List Head) (from to : ℕ) (old new : Job) (heads low : List Head) → IsOn floor old heads → to ≤ length old.packets → AreLowered l floor from to heads low → SetBetween low from to old new → Between l floor from to old new
between_of l floor from to old new heads low on room lower set = record {
  same = set.same;
  inside = λ p lo a b f.
      let x = lower.inside p lo (head_at old p) a b f (on.has p (omega (arith, b, room))) in
      subst (HeadLowered l lo (head_at old p)) (sym (set.inside p x.0 a b x.1)) x.2;
  others = set.others;
}

where_is : (from to p : ℕ) → ((p < from) ⊎ (to ≤ p)) ⊎ ((from ≤ p) × (p < to))
where_is from to p = elim (cases_lt p from) [
  | inl a ↦ inl (inl a)
  | inr a ↦ elim (cases_lt p to) [
    | inl b ↦ inr (omega (arith, a), b)
    | inr b ↦ inl (inr (omega (arith, b)))
  ]
]

module _ (l : Level) (floor : List Head) (from to : ℕ) (old new : Job) (b : Between l floor from to old new) (floored : length floor ≡ length old.packets) (room : to ≤ length old.packets) where
  -- what holds of a head and itself, and of one and the same lowered, holds of each packet's
  to_each : (P : ℕ → Head → Head → Type 0) → ((p : ℕ) (g : Head) → P p g g) → ((p : ℕ) (low g : Head) → slice_get floor p ≡ Some low → IsLowered l low g (head_at new p) → P p g (head_at new p)) → (p : ℕ) → P p (head_at old p) (head_at new p)
  to_each P same less p = elim (where_is from to p) [
    | inl out ↦ subst (P p (head_at old p)) (sym (b.others p out)) (same p (head_at old p))
    | inr (a, c) ↦
        let low = slice_index_or floor p no_head in
        let there : slice_get floor p ≡ Some low = slice_get-get_or floor p no_head (omega (arith, c, floored, room)) in
        elim (b.inside p low a c there) [
          | inl x ↦ less p low (head_at old p) there x
          | inr x ↦ subst (P p (head_at old p)) (sym x.1) (same p (head_at old p))
        ]
  ]

  pub between_below : Raises new old
  between_below = record {
    same = sym b.same;
    heads = to_each (λ p g h. HeadRaises h g) (λ p g. head_itself g) (λ p low g there x. subst (λ h. HeadRaises h g) (sym x.is) (lowered_below (part_of l) g));
  }

  pub between_above : AtOrAbove floor old → AtOrAbove floor new
  between_above above p low there =
      to_each (λ p g h. (lo : Head) → slice_get floor p ≡ Some lo → HeadRaises lo g → HeadRaises lo h) (λ p g lo f up. up)
      (λ p low g f x lo f' up. subst (λ z. HeadRaises z (head_at new p)) (sym (get_or_from_slice_get floor p low no_head f) ∙ get_or_from_slice_get floor p lo no_head f') x.above)
      p low there (above p low there)

  pub between_scopes : l ≢ level.Bit → SameButScopes old new
  between_scopes n = record {
    heads = b.same;
    bits = to_each (λ p g h. g.barrier ≡ h.barrier) (λ p g. refl) (λ p low g there x. sym (ap (λ (h : Head). h.barrier) x.is ∙ lowered_bit l g n));
  }

  pub between_settled : (p : ℕ) → from ≤ p → p < to → IsAt l (head_at new p) → Settled floor new p (part_of l)
  between_settled p a c at can o = elim (b.inside p can.low a c can.is_floor) [
    | inl x ↦ lowered_not_at l (head_at old p) x.at (subst (IsAt l) x.is at)
    | inr x ↦ x.0 (subst (IsAt l) x.1 at) (subst (λ h. HeadRaises can.low (lowered (part_of l) h)) x.1 can.above)
  ]

  -- the one packet that is lowered
  lowered_is : to ≡ from + 1 → (p : ℕ) (low : Head) → from ≤ p → p < to → IsLowered l low (head_at old p) (head_at new p) → with_head old p (lowered (part_of l) (head_at old p)) ≡ new
  lowered_is one p low a c x = same_by_heads one_less new (sym set.same ∙ b.same) heads
    where
      one_less : Job
      one_less = with_head old p (lowered (part_of l) (head_at old p))

      set : HeadIsSet old p (lowered (part_of l) (head_at old p))
      set = heads_are_set old p (lowered (part_of l) (head_at old p)) (omega (arith, c, room))

      outside : (q : ℕ) → q ≢ p → (q < from) ⊎ (to ≤ q)
      outside q apart = elim (cases_lt q from) [
        | inl d ↦ inl d
        | inr d ↦ inr (omega (arith, d, one, a, c, apart))
      ]

      heads : (q : ℕ) → IsPacket one_less q → head_at one_less q ≡ head_at new q
      heads q is = elim (cases_eq q p) [
        | inl e ↦ ap (head_at one_less) e ∙ set.here ∙ sym x.is ∙ ap (head_at new) (sym e)
        | inr apart ↦ ap head_of (set.others q apart) ∙ sym (b.others q (outside q apart))
      ]

  pub between_refused : to ≡ from + 1 → ¬ Ordered new → (p : ℕ) → from ≤ p → p < to → IsAt l (head_at old p) → Settled floor old p (part_of l)
  between_refused one refused p a c at can o = elim (b.inside p can.low a c can.is_floor) [
    | inl x ↦ refused (subst Ordered (lowered_is one p can.low a c x) o)
    | inr x ↦ x.0 at can.above
  ]

  pub lists_kept : Ordered old → (list : List ℕ) × OrderList new list
  lists_kept o = (o.list, (heads_leave_lists old new o.list b.same).0.0 o.order)

-- ---- attempts

pub itself_below : (job : Job) → Raises job job
itself_below job = record { same = refl; heads = λ p. head_itself (head_at job p) }

module _ (l : Level) (floor : List Head) (from to : ℕ) (old new : Job) (heads low : List Head) (rounds : Rounds) (on : IsOn floor old heads) (room : to ≤ length old.packets) (lower : AreLowered l floor from to heads low) (set : SetBetween low from to old new) where
  b : Between l floor from to old new
  b = between_of l floor from to old new heads low on room lower set

  as_many : length new.packets ≡ length old.packets
  as_many = sym (same_length old.packets new.packets (packets_same old new b.same))

  pub rounds_stay : AreOf old rounds → l ≢ level.Bit → AreOf new rounds
  rounds_stay h n = scopes_leave_rounds old new rounds (between_scopes l floor from to old new b on.floored room n) h

  -- where the job is ordered then
  pub attempted_went : AllShown new → AreOf new rounds → Attempted l floor from to old new low rounds true
  attempted_went shown fit = record {
    on = record {
      len = lower.len ∙ on.len ∙ sym as_many;
      floored = on.floored ∙ sym as_many;
      has = has;
      above = between_above l floor from to old new b on.floored room on.above;
      ordered = let o = lists_kept l floor from to old new b on.floored room on.ordered in shown_is_ordered new o.0 o.1 shown;
    };
    below = between_below l floor from to old new b on.floored room;
    others = b.others;
    fit = λ n. fit;
    settled = λ done p a c at. between_settled l floor from to old new b on.floored room p a c at;
  }
    where
      has : (p : ℕ) → IsPacket new p → slice_get low p ≡ Some (head_at new p)
      has p is = elim (where_is from to p) [
        | inl out ↦ lower.others p out ∙ on.has p (omega (arith, is, as_many)) ∙ ap (λ h. Some h) (sym (b.others p out))
        | inr (a, c) ↦
            let there = slice_get-get_or floor p no_head (omega (arith, c, on.floored, room)) in
            let x = lower.inside p (slice_index_or floor p no_head) (head_at old p) a c there (on.has p (omega (arith, c, room))) in
            x.1 ∙ ap (λ h. Some h) (sym (set.inside p x.0 a c x.1))
      ]

  -- where it isn't, and the heads are put back
  module _ (back : Job) (unset : SetBetween heads from to new back) where
    pub put_back : back ≡ old
    put_back = same_by_heads back old (sym unset.same ∙ sym b.same) (λ p is. elim (where_is from to p) [
      | inl out ↦ unset.others p out ∙ b.others p out
      | inr (a, c) ↦ unset.inside p (head_at old p) a c (on.has p (omega (arith, c, room)))
    ])

    pub attempted_back : ¬ Ordered new → AreOf new rounds → Attempted l floor from to old back heads rounds false
    attempted_back refused fit = subst (λ k. Attempted l floor from to old k heads rounds false) (sym put_back) (record {
      on = on;
      below = itself_below old;
      others = λ p out. refl;
      fit = λ n. scopes_leave_rounds new old rounds (turned (between_scopes l floor from to old new b on.floored room n)) fit;
      settled = λ done p a c at. between_refused l floor from to old new b on.floored room (single done) refused p a c at;
    })
      where
        turned : SameButScopes old new → SameButScopes new old
        turned s = record { heads = sym s.heads; bits = λ p. sym (s.bits p) }

        single : IsTrue false ⊎ (to ≡ from + 1) → to ≡ from + 1
        single (inl never) = absurd (true≢false (sym never))
        single (inr one) = one

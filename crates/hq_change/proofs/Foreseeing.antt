-- What is foreseen of bits.
use Rattle.std.proofs.Common.{◌≡◌, ℕ, ◌+◌, ◌<◌, ◌≤◌, inl, inr, ◌||◌, ◌==◌, IsTrue, List, refl, sym, ◌∙◌, ap, subst, arith, Some, slice_get}
use Rattle.std.specs.Global.{Vec}
use Rattle.std.proofs.lemmas.Bool.{cases_eq, cases_lt}
use Rattle.std.proofs.lemmas.Option.{get_or_from_slice_get}
use Rattle.hq_packet.specs.declared.packet.Head.{Head}
use Rattle.hq_model.specs.Job.{Job, IsPacket}
use Rattle.hq_model.specs.Fence.{Ordered}
use Rattle.hq_model.specs.Settings.{HeadIsSet, HeadRaises, SameButHeads, head_at, head_of, lowered, no_head, with_head}
use Rattle.hq_model.specs.Settings.Part.{Bit}
use Rattle.hq_model.proofs.Fences.{shown_is_before}
use Rattle.hq_model.proofs.SettingsKept.{heads_leave_conflicts, heads_leave_lists, same_length, packets_same}
use Rattle.hq_model.proofs.SettingsSteps.{heads_are_set, raises_on, same_by_heads}
use Rattle.hq_bits.specs.Bits.{has}
use Rattle.hq_rows.specs.Matrix.{Marks, IsSquare, row}
use Rattle.hq_bits.proofs.Walked.{mark_bit}
use Rattle.hq_parts.specs.Parts.{NeverConflict}
use Rattle.hq_audit.specs.Refused.{AllShown}
use Rattle.hq_order.specs.Sweeping.{HaveOrder}
use Rattle.hq_audit.proofs.Certifying.{shown_is_ordered, turned}
use Rattle.hq_change.specs.declared.level.Level.TheVariants as level
use Rattle.hq_change.specs.Levels.{IsAt, IsLowered, Stays}
use Rattle.hq_change.specs.Minimal.{AtOrAbove, Settled}
use Rattle.hq_fence.specs.Judgement.{HaveConflict}
use Rattle.hq_change.specs.Foresight.{AllForeseen, AreConflicts, BitsSettled, Foreseen}
use Rattle.hq_change.proofs.Single.{lowered_below, lowered_not_at}
use Rattle.hq_change.proofs.Between.{itself_below}
use Rattle.hq_change.proofs.Whole.{packet_kept, settled_more}

-- ---- packets that are apart

pub apart_refuses : (job : Job) (rows : List (Vec ℕ)) (b a : ℕ) → HaveOrder job rows → b < a → IsPacket job a → HaveConflict job b a → ¬ Marks rows b a → ¬ Marks rows a b → ¬ Ordered job
apart_refuses job rows b a h low is conflict first second o = elim (o.shown b a conflict.0 low is conflict.1) [
  | inl shown ↦ first (h.all b a (shown_is_before job conflict.0 b a (shown conflict.0 conflict.1)))
  | inr shown ↦ let c = turned job conflict.0 a b conflict.1 in second (h.all a b (shown_is_before job c.0 a b (shown c.0 c.1)))
]

pub conflicts_stay : (j k : Job) (rows : List (Vec ℕ)) → SameButHeads j k → AreConflicts j rows → AreConflicts k rows
conflicts_stay j k rows same h = record {
  square = subst (λ n. IsSquare n rows) (same_length j.packets k.packets (packets_same j k same)) h.square;
  conflict = λ b a m. let x = h.conflict b a m in (x.0, (x.1.0, (heads_leave_conflicts j k x.1.0 b a same).0 x.1.1));
}

-- ---- one bit

module _ (floor : List Head) (p : ℕ) (job : Job) (low : Head) (is : IsPacket job p) (there : slice_get floor p ≡ Some low) (above : AtOrAbove floor job) where
  pub one_kept : Stays level.Bit low (head_at job p) → Foreseen floor p job job
  one_kept stays = record {
    below = itself_below job;
    above = above;
    others = λ q apart. refl;
    settled = λ at can o. stays at (subst (λ x. HeadRaises x (lowered Bit (head_at job p))) (same_low can.low can.is_floor) can.above);
  }
    where
      same_low : (x : Head) → slice_get floor p ≡ Some x → x ≡ low
      same_low x e = sym (get_or_from_slice_get floor p x no_head e) ∙ get_or_from_slice_get floor p low no_head there

  module _ (less : Head) (x : IsLowered level.Bit low (head_at job p) less) where
    set : HeadIsSet job p less
    set = heads_are_set job p less is

    down : HeadRaises less (head_at job p)
    down = subst (λ h. HeadRaises h (head_at job p)) (sym x.is) (lowered_below Bit (head_at job p))

    pub one_gone : Foreseen floor p job (with_head job p less)
    one_gone = record {
      below = set.lower down;
      above = λ q l e. elim (cases_eq q p) [
        | inl same ↦
            let low_is : low ≡ l = sym (get_or_from_slice_get floor p low no_head there) ∙ get_or_from_slice_get floor p l no_head (ap (slice_get floor) (sym same) ∙ e) in
            subst (HeadRaises l) (sym (ap (head_at (with_head job p less)) same ∙ set.here)) (subst (λ h. HeadRaises h less) low_is x.above)
        | inr apart ↦ subst (HeadRaises l) (sym (ap head_of (set.others q apart))) (above q l e)
      ];
      others = λ q apart. ap head_of (set.others q apart);
      settled = λ at. absurd (lowered_not_at level.Bit (head_at job p) x.at (subst (IsAt level.Bit) (set.here ∙ x.is) at));
    }

    pub back_is : with_head (with_head job p less) p (head_at job p) ≡ job
    back_is = same_by_heads back job (sym again.same ∙ sym set.same) (λ q is_q. elim (cases_eq q p) [
      | inl same ↦ ap (head_at back) same ∙ again.here ∙ ap (head_at job) (sym same)
      | inr apart ↦ ap head_of (again.others q apart) ∙ ap head_of (set.others q apart)
    ])
      where
        back : Job
        back = with_head (with_head job p less) p (head_at job p)

        again : HeadIsSet (with_head job p less) p (head_at job p)
        again = heads_are_set (with_head job p less) p (head_at job p) (packet_kept job (with_head job p less) p set.same is)

    pub one_back : ¬ Ordered (with_head job p less) → Foreseen floor p job (with_head (with_head job p less) p (head_at job p))
    one_back refused = subst (Foreseen floor p job) (sym back_is) (record {
      below = itself_below job;
      above = above;
      others = λ q apart. refl;
      settled = λ at can o. refused (subst (λ h. Ordered (with_head job p h)) (sym x.is) o);
    })

-- the same of code's values
module _ (floor : List Head) (p : ℕ) (job : Job) (low head less : Head) (k : Job) (is : IsPacket job p) (there : slice_get floor p ≡ Some low) (above : AtOrAbove floor job) (e : head ≡ head_at job p) (x : IsLowered level.Bit low head less) (set : k ≡ with_head job p less) where
  lower : IsLowered level.Bit low (head_at job p) less
  lower = subst (λ h. IsLowered level.Bit low h less) e x

  pub gone_if : Foreseen floor p job k
  gone_if = subst (Foreseen floor p job) (sym set) (one_gone floor p job low is there above less lower)

  pub back_if : ¬ Ordered k → (back : Job) → back ≡ with_head k p head → Foreseen floor p job back
  back_if refused back unset =
      subst (Foreseen floor p job) (sym (unset ∙ ap (λ j. with_head j p head) set ∙ ap (with_head (with_head job p less) p) e))
      (one_back floor p job low is there above less lower (subst (λ j. ¬ Ordered j) set refused))

-- ---- one bit behind another

pub more_foreseen : (floor : List Head) (p : ℕ) (old now new : Job) → AllForeseen floor (p + 1) old now → Foreseen floor p now new → AllForeseen floor p old new
more_foreseen floor p old now new all one = record {
  below = raises_on new now old one.below all.below;
  above = one.above;
  settled = settled_more level.Bit floor (p + 1) now new one.below (λ q out. one.others q (λ e. omega (arith, out, e))) all.settled p
      (λ q from to. let same : q ≡ p = omega (arith, from, to) in subst (λ r. IsAt level.Bit (head_at new r) → Settled floor new r Bit) (sym same) one.settled);
}

-- ---- conflicts noted

pub conflict_more : (job : Job) (a b : ℕ) (old now new : List ℕ) → now ≡ old → ((p : ℕ) → has new p ≡ (has now p || p == b)) → b < a → HaveConflict job b a → ((x : ℕ) → IsTrue (has old x) → (x < a) × HaveConflict job x a) → (x : ℕ) → IsTrue (has new x) → (x < a) × HaveConflict job x a
conflict_more job a b old now new e exact low conflict h x m = elim ((mark_bit (has now x) (has new x) x b (exact x)).0 m) [
  | inl was ↦ h x (subst (λ xs. IsTrue (has xs x)) e was)
  | inr same ↦ subst (λ y. (y < a) × HaveConflict job y a) (sym same) (low, conflict)
]

-- what may be passed over doesn't conflict with a
none_passed : (job : Job) (a x : ℕ) → NeverConflict job a x → HaveConflict job x a → ⊥
none_passed job a x never h = let c = turned job h.0 a x h.1 in never c.0 c.1

-- up to the first one that may conflict there is none
pub all_first : (job : Job) (a next : ℕ) (row : List ℕ) → ((s : ℕ) → 0 ≤ s → s < next → NeverConflict job a s) → (x : ℕ) → x < next → x < a → HaveConflict job x a → IsTrue (has row x)
all_first job a next row never x low less h = absurd (none_passed job a x (never x (omega arith) low) h)

module _ (job : Job) (a b next : ℕ) (old : List ℕ) (all : (x : ℕ) → x < b → x < a → HaveConflict job x a → IsTrue (has old x)) (never : (s : ℕ) → b + 1 ≤ s → s < next → NeverConflict job a s) where
  pub all_more : (now new : List ℕ) → now ≡ old → ((p : ℕ) → has new p ≡ (has now p || p == b)) → (x : ℕ) → x < next → x < a → HaveConflict job x a → IsTrue (has new x)
  all_more now new e exact x low less h =
      let bit = (mark_bit (has now x) (has new x) x b (exact x)).1 in
      elim (cases_lt x b) [
        | inl below ↦ bit (inl (subst (λ xs. IsTrue (has xs x)) (sym e) (all x below less h)))
        | inr from ↦ elim (cases_eq x b) [
          | inl same ↦ bit (inr same)
          | inr apart ↦ absurd (none_passed job a x (never x (omega (arith, from, apart)) low) h)
        ]
      ]

  pub all_kept : ¬ HaveConflict job b a → (x : ℕ) → x < next → x < a → HaveConflict job x a → IsTrue (has old x)
  all_kept none x low less h = elim (cases_lt x b) [
    | inl below ↦ all x below less h
    | inr from ↦ elim (cases_eq x b) [
      | inl same ↦ absurd (none (subst (λ y. HaveConflict job y a) same h))
      | inr apart ↦ absurd (none_passed job a x (never x (omega (arith, from, apart)) low) h)
    ]
  ]

-- ---- the job so lowered

pub foreseen_settled : (floor : List Head) (old low new : Job) → low ≡ old → Ordered old → AllForeseen floor 0 low new → AllShown new → BitsSettled floor old new
foreseen_settled floor old low new e o all shown = record {
  ordered = shown_is_ordered new o.list ((heads_leave_lists old new o.list (sym mine.below.same)).0.0 o.order) shown;
  all = mine;
}
  where
    mine : AllForeseen floor 0 old new
    mine = subst (λ j. AllForeseen floor 0 j new) e all

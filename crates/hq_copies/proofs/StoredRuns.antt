-- Bytes that are stored one behind the other are a run over those that a lane holds.
use Rattle.std.proofs.Common.{◌≡◌, ℕ, suc, ◌+◌, ◌-◌, ◌<◌, true, inl, inr, List, [], ◌∷◌, ◌++◌, length, set, sym, ◌∙◌, ap, ap₂, arith, None, slice_get, length-set, get_or-set_same}
use Rattle.std.proofs.lemmas.Bool.{cases_order}
use Rattle.std.proofs.lemmas.List.{set-set, set-get_or}
use Rattle.std.specs.FinMap as finite
use Rattle.hq_model.specs.View.{Held}
use Rattle.hq_copies.specs.Copies.{CopiesValue, a_copy, held, stored, stored_run}
use Rattle.hq_copies.specs.Overlays.{run_at, dirty_over}
use Rattle.hq_copies.proofs.Gathered.{get_inserted_same, get_inserted_other}
use Rattle.hq_copies.proofs.Overlays.{run_before, run_from}

abbrev pub held_run : Held → ℕ → List ℕ → Held
held_run m b [] = m
held_run m b (value ∷ values) = held_run (finite.insert m b (a_copy value true)) (b + 1) values

none_of_none : (b n : ℕ) → run_at b [] n ≡ None
none_of_none b n = elim (cases_order n b) [
  | inl same ↦ run_from b [] n (omega arith)
  | inr d ↦ elim d [ inl low ↦ run_before b [] n low | inr high ↦ run_from b [] n (omega arith) ]
]

pub get_held_run : (m : Held) (b : ℕ) (values : List ℕ) (n : ℕ) → finite.get (held_run m b values) n ≡ dirty_over (run_at b values n) (finite.get m n)
get_held_run m b [] n = ap (λ t. dirty_over t (finite.get m n)) (sym (none_of_none b n))
get_held_run m b (value ∷ values) n =
    get_held_run (finite.insert m b (a_copy value true)) (b + 1) values n
    ∙ elim (cases_order n b) [
      | inl same ↦
          let z : n - b ≡ 0 = omega arith in
          ap₂ dirty_over (run_before (b + 1) values n (omega arith)) (ap (finite.get (finite.insert m b (a_copy value true))) same ∙ get_inserted_same m b (a_copy value true))
          ∙ ap (λ t. dirty_over t (finite.get m n)) (sym (run_from b (value ∷ values) n (omega arith) ∙ ap (slice_get (value ∷ values)) z))
      | inr d ↦ elim d [
        | inl low ↦
            ap₂ dirty_over (run_before (b + 1) values n (omega arith)) (get_inserted_other m b (a_copy value true) n (λ e. absurd (omega arith)))
            ∙ ap (λ t. dirty_over t (finite.get m n)) (sym (run_before b (value ∷ values) n low))
        | inr high ↦
            let z : n - b ≡ suc (n - (b + 1)) = omega arith in
            ap₂ dirty_over (run_from (b + 1) values n (omega arith)) (get_inserted_other m b (a_copy value true) n (λ e. absurd (omega arith)))
            ∙ ap (λ t. dirty_over t (finite.get m n)) (sym (run_from b (value ∷ values) n (omega arith) ∙ ap (slice_get (value ∷ values)) z))
      ]
    ]

pub stored_is : (c : CopiesValue) (p b : ℕ) (values : List ℕ) → p < length c.lanes → stored_run c p b values ≡ record c { lanes = set c.lanes p (held_run (held c.lanes p) b values) }
stored_is c p b [] l = sym (ap (λ ls. record c { lanes = ls }) (set-get_or c.lanes p finite.empty))
stored_is c p b (value ∷ values) l =
    let m : Held = finite.insert (held c.lanes p) b (a_copy value true) in
    stored_is (stored c p b value) p (b + 1) values (omega (arith, length-set c.lanes p m))
    ∙ ap (λ ls. record c { lanes = ls }) (set-set c.lanes p m (held_run (held (set c.lanes p m) p) (b + 1) values) ∙ ap (λ t. set c.lanes p (held_run t (b + 1) values)) (get_or-set_same c.lanes p m finite.empty l))

-- one byte more
pub stored_more : (c : CopiesValue) (p b : ℕ) (values : List ℕ) (value : ℕ) → stored_run c p b (values ++ value ∷ []) ≡ stored (stored_run c p b values) p (b + length values) value
stored_more c p b [] value = let e : b ≡ b + 0 = omega arith in ap (λ k. stored c p k value) e
stored_more c p b (first ∷ values) value =
    let e : (b + 1) + length values ≡ b + suc (length values) = omega arith in
    stored_more (stored c p b first) p (b + 1) values value ∙ ap (λ k. stored (stored_run (stored c p b first) p (b + 1) values) p k value) e

-- When all of a row is there.
use Rattle.std.proofs.Common.{◌≡◌, ℕ, zero, suc, ◌-◌, ◌<◌, ◌≤◌, ◌↔◌, inl, inr, List, [], ◌∷◌, Bool, true, false, cond, eqb, Option, Some, None, IfSome, length, filter, count_by, set, get_or, slice_index, refl, sym, ◌∙◌, ap, arith, get_or-set_same, get_or-set_other}
use Rattle.std.proofs.lemmas.Bool.{cases_eq, cases_lt, cases_Bool, cond-true, cond-false, eq-eqb, ne_eqb, true≢false}
use Rattle.std.proofs.lemmas.List.{get_or_past}
use Rattle.std.proofs.lemmas.List.Sums.{length-filter, count_by-le-length}
use Rattle.hq_model.specs.Job.{is_signal}
use Rattle.hq_events.specs.Rows.{IsRow}
use Rattle.hq_machine.specs.Changes.{decremented}

few : {X : Type 0} (f : X → Bool) (xs : List X) → length (filter f xs) ≤ length xs
few f xs = let a = length-filter f xs in let b = count_by-le-length f xs in omega arith

all_true : {X : Type 0} (f : X → Bool) (xs : List X) → length (filter f xs) ≡ length xs → (i : ℕ) (d : X) → i < length xs → f (get_or xs i d) ≡ true
all_true f [] e i d l = absurd (omega arith)
all_true f (x ∷ xs) e zero d l = elim (cases_Bool (f x)) [
  | inr n ↦ let g = ap length (cond-false (f x) (x ∷ filter f xs) (filter f xs) n) in let h = few f xs in absurd (omega arith)
  | inl t ↦ t
]
all_true f (x ∷ xs) e (suc i) d l = elim (cases_Bool (f x)) [
  | inr n ↦ let g = ap length (cond-false (f x) (x ∷ filter f xs) (filter f xs) n) in let h = few f xs in absurd (omega arith)
  | inl t ↦ let g = ap length (cond-true (f x) (x ∷ filter f xs) (filter f xs) t) in all_true f xs (omega arith) i d (omega arith)
]

all_count : {X : Type 0} (f : X → Bool) (xs : List X) (d : X) → ((i : ℕ) → i < length xs → f (get_or xs i d) ≡ true) → length (filter f xs) ≡ length xs
all_count f [] d h = refl
all_count f (x ∷ xs) d h =
    let g = ap length (cond-true (f x) (x ∷ filter f xs) (filter f xs) (h 0 (omega arith))) in
    let r = all_count f xs d (λ i l. h (suc i) (omega arith)) in
    omega arith

-- A row of n, or an empty one, has n that pass exactly where the first n do.
pub full_row : {X : Type 0} (f : X → Bool) (xs : List X) (d : X) (n : ℕ) → f d ≡ false → IsRow n xs → (count_by f xs ≡ n) ↔ ((i : ℕ) → i < n → f (get_or xs i d) ≡ true)
full_row f xs d n none (inl empty) = (
  λ e i l. let a = count_by-le-length f xs in absurd (omega arith),
  λ h. elim (cases_lt 0 n) [
    | inl some ↦ absurd (true≢false (sym (h 0 some) ∙ ap f (get_or_past xs 0 d (omega arith)) ∙ none))
    | inr zero' ↦ let a = count_by-le-length f xs in omega arith
  ],
)
full_row f xs d n none (inr whole) = (
  λ e i l. all_true f xs (let a = length-filter f xs in omega arith) i d (omega arith),
  λ h. let a = length-filter f xs in let b = all_count f xs d (λ i l. h i (omega arith)) in omega arith,
)

-- what a completion leaves of the signals
pub decremented_is : (xs : List ℕ) (done : Option ℕ) → IfSome done (λ s. s < length xs) → (s : ℕ) → slice_index (decremented xs done) s ≡ cond (is_signal s done) (slice_index xs s - 1) (slice_index xs s)
decremented_is xs None there s = refl
decremented_is xs (Some t) there s = elim (cases_eq s t) [
  | inl e ↦ ap (λ k. get_or (set xs t (get_or xs t 0 - 1)) k 0) e ∙ get_or-set_same xs t (get_or xs t 0 - 1) 0 there ∙ ap (λ k. get_or xs k 0 - 1) (sym e) ∙ sym (cond-true (eqb t s) (get_or xs s 0 - 1) (get_or xs s 0) (eq-eqb t s (sym e)))
  | inr d ↦ get_or-set_other xs t s (get_or xs t 0 - 1) 0 d ∙ sym (cond-false (eqb t s) (get_or xs s 0 - 1) (get_or xs s 0) (ne_eqb t s (λ e. d (sym e))))
]

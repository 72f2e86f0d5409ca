-- A row changes in one place.
use Rattle.std.proofs.Common.{◌≡◌, ℕ, ◌<◌, inl, inr, List, length, set, get_or, sym, ◌∙◌, ap, cond, eqb, get_or-set_same, get_or-set_other}
use Rattle.std.proofs.lemmas.Bool.{cases_eq, cond-true, cond-false, eq-eqb, ne_eqb}

pub row_set : {Y : Type 0} (row : List Y) (i : ℕ) (y d : Y) → i < length row → (j : ℕ) → get_or (set row i y) j d ≡ cond (eqb j i) y (get_or row j d)
row_set row i y d l j = elim (cases_eq j i) [
  | inl e ↦ ap (λ k. get_or (set row i y) k d) e ∙ get_or-set_same row i y d l ∙ sym (cond-true (eqb j i) y (get_or row j d) (eq-eqb j i e))
  | inr e ↦ get_or-set_other row i j y d e ∙ sym (cond-false (eqb j i) y (get_or row j d) (ne_eqb j i e))
]

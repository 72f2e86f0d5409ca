-- A slice that is filled place by place.
use Rattle.std.proofs.Common.{◌≡◌, ℕ, ◌+◌, ◌<◌, ◌++◌, inl, inr, List, length, take, set, get_or, sym, ◌∙◌, ap, arith, get_or-set_same, get_or-set_other}
use Rattle.std.proofs.lemmas.Bool.{cases_eq}
use Rattle.std.proofs.lemmas.List.{take-append-le}
use Rattle.hq_model.specs.Machine.{listed}
use Rattle.hq_model.proofs.Given.{listed_is}

-- one place more
pub filled_more : (f : ℕ → ℕ) (xs : List ℕ) (i v : ℕ) → i < length xs → v ≡ f i → ((k : ℕ) → k < i → get_or xs k 0 ≡ f k) → (k : ℕ) → k < i + 1 → get_or (set xs i v) k 0 ≡ f k
filled_more f xs i v there is before k l = elim (cases_eq k i) [
  | inl e ↦ ap (λ m. get_or (set xs i v) m 0) e ∙ get_or-set_same xs i v 0 there ∙ is ∙ ap f (sym e)
  | inr d ↦ get_or-set_other xs i k v 0 d ∙ before k (omega (arith, l, d))
]

-- all places
pub all_filled : (n : ℕ) (f : ℕ → ℕ) (xs ys : List ℕ) → length xs ≡ n → ((k : ℕ) → k < n → get_or xs k 0 ≡ f k) → take n (xs ++ ys) ≡ listed n f
all_filled n f xs ys l h = take-append-le n xs ys (omega (arith, l)) ∙ sym (listed_is n f xs (omega (arith, l)) (λ i b. sym (h i b)))

-- Lists of equal length that agree at each place are equal.
use Rattle.std.proofs.Common.{◌≡◌, ℕ, suc, ◌+◌, ◌<◌, ◌≤◌, List, [], ◌∷◌, length, slice_get, Some, refl, sym, ap, ◌∙◌, arith, inl, inr}
use Rattle.std.proofs.lemmas.Bool.{cases_lt}

-- two lists agree at each place below a bound
pub record AgreeBelow {A : Type 0} (bound : ℕ) (a b : List A) : Type 0 where
  pub each : (k : ℕ) → k < bound → slice_get a k ≡ slice_get b k

pub agree_further : {A : Type 0} (a b : List A) (i : ℕ) → AgreeBelow i a b → slice_get a i ≡ slice_get b i → AgreeBelow (i + 1) a b
agree_further a b i before here = record {
  each = λ k lt. elim (cases_lt k i) [
    | inl below ↦ before.each k below
    | inr above ↦ let same : k ≡ i = omega arith in ap (slice_get a) same ∙ here ∙ ap (slice_get b) (sym same)
  ];
}

pub same_lists : {A : Type 0} (a b : List A) → length a ≡ length b → AgreeBelow (length a) a b → a ≡ b
same_lists [] [] e agree = refl
same_lists [] (y ∷ ys) e agree = absurd (omega arith)
same_lists (x ∷ xs) [] e agree = absurd (omega arith)
same_lists (x ∷ xs) (y ∷ ys) e agree =
    let head : Some x ≡ Some y = agree.each 0 (omega arith) in
    let first : x ≡ y = cc in
    let tail = same_lists xs ys (omega arith) (record { each = λ k lt. agree.each (suc k) (omega arith) }) in
    λ j. first j ∷ tail j

pub same_to_the_end : {A : Type 0} (a b : List A) (i : ℕ) → length a ≡ length b → length a ≤ i → AgreeBelow i a b → a ≡ b
same_to_the_end a b i e le agree = same_lists a b e (record { each = λ k lt. agree.each k (omega arith) })

-- Items of a list, up to the first that fails.
use Rattle.std.proofs.Common.{◌≡◌, ℕ, ◌+◌, ◌<◌, ◌≤◌, inl, inr, List, length, sym, ◌∙◌, ap, subst, arith, Some, slice_get, All}
use Rattle.std.proofs.lemmas.Bool.{cases_eq}
use Rattle.std.proofs.lemmas.Option.{slice_get-get_or}
use Rattle.hq_ordercheck.proofs.Options.{some_same}

-- the statement holds of each item that stands below a place
pub record AllBelow {X : Type 0} (P : X → Type 0) (xs : List X) (i : ℕ) : Type 0 where
  pub at : (j : ℕ) (x : X) → j < i → slice_get xs j ≡ Some x → P x

pub below_none : {X : Type 0} (P : X → Type 0) (xs : List X) → AllBelow P xs 0
below_none P xs = record { at = λ j x l e. absurd (omega arith) }

pub below_next : {X : Type 0} (P : X → Type 0) (xs : List X) (i : ℕ) (x : X) → AllBelow P xs i → slice_get xs i ≡ Some x → P x → AllBelow P xs (i + 1)
below_next P xs i x b e this = record {
  at = λ j y l f. elim (cases_eq j i) [
    | inl same ↦ subst P (some_same x y (sym e ∙ ap (slice_get xs) (sym same) ∙ f)) this
    | inr apart ↦ b.at j y (omega arith) f
  ];
}

pub below_all : {X : Type 0} (P : X → Type 0) (xs : List X) (i : ℕ) → AllBelow P xs i → length xs ≤ i → All P xs
below_all P xs i b m = λ k d l. b.at k _ (omega arith) (slice_get-get_or xs k d l)

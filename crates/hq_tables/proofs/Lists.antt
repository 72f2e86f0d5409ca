-- What stands at a place of a list, and how many of its items pass a test.
use Rattle.std.proofs.Common.{◌≡◌, ℕ, zero, suc, ◌+◌, ◌<◌, List, [], ◌∷◌, ◌++◌, length, refl, ◌∙◌, subst, arith, Bool, false, cond, Some, slice_get, All, count_by}
use Rattle.std.proofs.lemmas.Bool.{cond-false}
use Rattle.std.proofs.lemmas.List.Sums.{sum_by-append, sum_by-cons}
use Rattle.std.proofs.lemmas.Option.{get_or_from_slice_get}

pub some_is : {X : Type 0} (x y : X) → Some x ≡ Some y → x ≡ y
some_is x y e = cc

-- what stands at a place that is there
pub record At {X : Type 0} (xs : List X) (k : ℕ) : Type 0 where
  pub x : X
  pub there : slice_get xs k ≡ Some x

pub at : {X : Type 0} (xs : List X) (k : ℕ) → k < length xs → At xs k
at [] k l = absurd (omega arith)
at (x ∷ xs) zero l = record { x = x; there = refl }
at (x ∷ xs) (suc k) l = let rest = at xs k (omega arith) in record { x = rest.x; there = rest.there }

pub within : {X : Type 0} (xs : List X) (k : ℕ) (x : X) → slice_get xs k ≡ Some x → k < length xs
within [] k x e = absurd (cc)
within (y ∷ ys) zero x e = omega arith
within (y ∷ ys) (suc k) x e = omega (arith, within ys k x e)

pub all_at : {X : Type 0} (P : X → Type 0) (xs : List X) (k : ℕ) (x : X) → All P xs → slice_get xs k ≡ Some x → P x
all_at P xs k x h e = subst P (get_or_from_slice_get xs k x x e) (h k x (within xs k x e))

-- none passes
pub count_none : {X : Type 0} (test : X → Bool) (xs : List X) → All (λ x. test x ≡ false) xs → count_by test xs ≡ 0
count_none test [] all = refl
count_none test (x ∷ xs) all =
    omega (arith, sum_by-cons (λ y. cond {A = ℕ} (test y) 1 0) x xs, cond-false {A = ℕ} (test x) 1 0 (all 0 x (omega arith)), count_none test xs (λ k d l. all (suc k) d (omega arith)))

-- one more
pub count_push : {X : Type 0} (test : X → Bool) (xs : List X) (x : X) → count_by test (xs ++ x ∷ []) ≡ count_by test xs + cond (test x) 1 0
count_push test xs x = sum_by-append (λ y. cond {A = ℕ} (test y) 1 0) xs (x ∷ []) ∙ omega (arith, sum_by-cons (λ y. cond {A = ℕ} (test y) 1 0) x [])

-- What holds of all holds of the grouped, and sums over the grouped are those over the list.
use Rattle.std.proofs.Common.{◌≡◌, ℕ, zero, suc, ◌+◌, ◌<◌, ◌≤◌, ◌≢◌, inl, inr, Bool, map, cond, ◌==◌, List, [], ◌∷◌, sym, ap, ◌∙◌, subst, arith, All, sum_by, count_by, refl}
use Rattle.std.proofs.lemmas.Bool.{cases_eq, cond-true, cond-false, eq-eqb, ne_eqb}
use Rattle.std.proofs.lemmas.List.Elements.{All-nil, All-append, All-filter}
use Rattle.std.proofs.lemmas.List.Sums.{sum_by-cons, sum_by-append}
use Rattle.hq_job.specs.Numbering.{with_key, grouped}
use Rattle.hq_job.proofs.Grouped.{grouped_more}

pub all_grouped : {X : Type 0} (P : X → Type 0) (key : X → ℕ) (n : ℕ) (xs : List X) → All P xs → All P (grouped key n xs)
all_grouped P key zero xs all = All-nil P
all_grouped P key (suc n) xs all =
    subst (All P) (sym (grouped_more key n xs)) (All-append P (grouped key n xs) (with_key key xs n) (all_grouped P key n xs all) (All-filter (λ x. key x == n) P xs all))

module _ {X : Type 0} (f : X → ℕ) (key : X → ℕ) where
  sum_more : (n : ℕ) (xs : List X) → sum_by f (grouped key (suc n) xs) ≡ sum_by f (grouped key n xs) + sum_by f (with_key key xs n)
  sum_more n xs = ap (sum_by f) (grouped_more key n xs) ∙ sum_by-append f (grouped key n xs) (with_key key xs n)

  sum_kept : (q : ℕ) (x : X) (xs : List X) → key x ≡ q → sum_by f (with_key key (x ∷ xs) q) ≡ f x + sum_by f (with_key key xs q)
  sum_kept q x xs e = ap (sum_by f) (cond-true (key x == q) (x ∷ with_key key xs q) (with_key key xs q) (eq-eqb (key x) q e)) ∙ sum_by-cons f x (with_key key xs q)

  sum_left : (q : ℕ) (x : X) (xs : List X) → key x ≢ q → sum_by f (with_key key (x ∷ xs) q) ≡ sum_by f (with_key key xs q)
  sum_left q x xs d = ap (sum_by f) (cond-false (key x == q) (x ∷ with_key key xs q) (with_key key xs q) (ne_eqb (key x) q d))

  sum_high : (n : ℕ) (x : X) (xs : List X) → n ≤ key x → sum_by f (grouped key n (x ∷ xs)) ≡ sum_by f (grouped key n xs)
  sum_high zero x xs l = refl
  sum_high (suc n) x xs l = omega (arith, sum_more n (x ∷ xs), sum_more n xs, sum_high n x xs (omega arith), sum_left n x xs (λ e. omega arith))

  sum_low : (n : ℕ) (x : X) (xs : List X) → key x < n → sum_by f (grouped key n (x ∷ xs)) ≡ f x + sum_by f (grouped key n xs)
  sum_low zero x xs l = absurd (omega arith)
  sum_low (suc n) x xs l = elim (cases_eq (key x) n) [
    | inl e ↦ omega (arith, sum_more n (x ∷ xs), sum_more n xs, sum_high n x xs (omega arith), sum_kept n x xs e)
    | inr d ↦ omega (arith, sum_more n (x ∷ xs), sum_more n xs, sum_low n x xs (omega arith), sum_left n x xs d)
  ]

  sum_nil : (n : ℕ) → sum_by f (grouped key n []) ≡ 0
  sum_nil zero = refl
  sum_nil (suc n) = omega (arith, sum_more n [], sum_nil n)

  pub sum_grouped : (n : ℕ) (xs : List X) → All (λ x. key x < n) xs → sum_by f (grouped key n xs) ≡ sum_by f xs
  sum_grouped n [] all = sum_nil n
  sum_grouped n (x ∷ xs) all = omega (arith, sum_low n x xs (all 0 x (omega arith)), sum_grouped n xs (λ k d l. all (suc k) d (omega arith)), sum_by-cons f x xs)

pub count_grouped : {X : Type 0} (test : X → Bool) (key : X → ℕ) (n : ℕ) (xs : List X) → All (λ x. key x < n) xs → count_by test (grouped key n xs) ≡ count_by test xs
count_grouped test key n xs all = sum_grouped (λ x. cond (test x) 1 0) key n xs all

-- a count over a mapped list
pub count_map : {X Y : Type 0} (test : Y → Bool) (f : X → Y) (xs : List X) → count_by test (map f xs) ≡ count_by (λ x. test (f x)) xs
count_map test f [] = refl
count_map test f (x ∷ xs) =
    omega (arith, sum_by-cons (λ y. cond {A = ℕ} (test y) 1 0) (f x) (map f xs), sum_by-cons (λ y. cond {A = ℕ} (test (f y)) 1 0) x xs, count_map test f xs)

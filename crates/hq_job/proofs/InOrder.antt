-- A list whose keys rise stands grouped already.
use Rattle.std.proofs.Common.{◌≡◌, ℕ, zero, suc, ◌<◌, ◌≤◌, inl, inr, List, [], ◌∷◌, ◌++◌, refl, sym, ◌∙◌, ap, arith, nat_lt, filter, All, AllPairs}
use Rattle.std.proofs.lemmas.Bool.{cases_eq, cases_lt, lt-ltb, le-ltb, eq-eqb, ne_eqb}
use Rattle.std.proofs.lemmas.List.Elements.{All-head, All-tail}
use Rattle.hq_job.specs.Numbering.{with_key, grouped}
use Rattle.hq_job.proofs.Grouped.{grouped_more}

module _ {X : Type 0} (key : X → ℕ) where
  abbrev Rises : List X → Type 0
  Rises xs = AllPairs (λ x y. key x ≤ key y) xs

  abbrev below : ℕ → List X → List X
  below n xs = filter (λ x. nat_lt (key x) n) xs

  head_least : (x : X) (xs : List X) → Rises (x ∷ xs) → All (λ y. key x ≤ key y) xs
  head_least x xs h k d l = h 0 (suc k) d (omega arith) (omega (arith, l))

  tail_rises : (x : X) (xs : List X) → Rises (x ∷ xs) → Rises xs
  tail_rises x xs h i j d less l = h (suc i) (suc j) d (omega (arith, less)) (omega (arith, l))

  none_below : (n : ℕ) (xs : List X) → All (λ x. n ≤ key x) xs → below n xs ≡ []
  none_below n [] h = refl
  none_below n (x ∷ xs) h = rw (le-ltb (key x) n (All-head (λ x. n ≤ key x) x xs h)) (none_below n xs (All-tail (λ x. n ≤ key x) x xs h))

  all_below : (n : ℕ) (xs : List X) → All (λ x. key x < n) xs → below n xs ≡ xs
  all_below n [] h = refl
  all_below n (x ∷ xs) h = rw (lt-ltb (key x) n (All-head (λ x. key x < n) x xs h)) (ap (λ ys. x ∷ ys) (all_below n xs (All-tail (λ x. key x < n) x xs h)))

  one_more : (n : ℕ) (xs : List X) → Rises xs → below (suc n) xs ≡ below n xs ++ with_key key xs n
  one_more n [] h = refl
  one_more n (x ∷ xs) h =
      let more = one_more n xs (tail_rises x xs h) in
      elim (cases_eq (key x) n) [
        | inl e ↦
            let none : below n xs ≡ [] = none_below n xs (λ k d l. omega (arith, e, head_least x xs h k d l)) in
            rw (lt-ltb (key x) (suc n) (omega (arith, e)), le-ltb (key x) n (omega (arith, e)), eq-eqb (key x) n e)
            (ap (λ ys. x ∷ ys) (more ∙ ap (λ ys. ys ++ with_key key xs n) none) ∙ sym (ap (λ ys. ys ++ x ∷ with_key key xs n) none))
        | inr apart ↦ elim (cases_lt (key x) n) [
          | inl low ↦ rw (lt-ltb (key x) (suc n) (omega (arith, low)), lt-ltb (key x) n low, ne_eqb (key x) n apart) (ap (λ ys. x ∷ ys) more)
          | inr high ↦ rw (le-ltb (key x) (suc n) (omega (arith, high, apart)), le-ltb (key x) n high, ne_eqb (key x) n apart) more
        ]
      ]

  grouped_below : (n : ℕ) (xs : List X) → Rises xs → grouped key n xs ≡ below n xs
  grouped_below zero xs h = sym (none_below 0 xs (λ k d l. omega arith))
  grouped_below (suc n) xs h = grouped_more key n xs ∙ ap (λ ys. ys ++ with_key key xs n) (grouped_below n xs h) ∙ sym (one_more n xs h)

  pub in_order : (n : ℕ) (xs : List X) → Rises xs → All (λ x. key x < n) xs → grouped key n xs ≡ xs
  in_order n xs h low = grouped_below n xs h ∙ all_below n xs low

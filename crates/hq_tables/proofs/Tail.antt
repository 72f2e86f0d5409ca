-- How often the greatest key stands in a list whose keys rise.
use Rattle.std.proofs.Common.{◌≡◌, ℕ, zero, suc, ◌+◌, ◌-◌, ◌<◌, ◌≤◌, ◌↔◌, inl, inr, List, length, refl, arith, ◌==◌, slice_index_or, count_by, take, ◌∙◌, ap, sym, subst, All, AllPairs, IsTrue}
use Rattle.std.proofs.lemmas.Bool.{cases_eq, eq-eqb, eqb-true, ne_eqb}
use Rattle.std.proofs.lemmas.List.Sums.{count_by_more_no, count_by_more_yes}
use Rattle.std.proofs.lemmas.List.{take_all}

module _ {X : Type 0} (key : X → ℕ) (xs : List X) (d : X) where
  abbrev at : ℕ → ℕ
  at i = key (slice_index_or xs i d)

  -- how many of the first i have the key
  abbrev how_many : ℕ → ℕ → ℕ
  how_many q i = count_by (λ x. key x == q) (take i xs)

  more_yes : (q i j : ℕ) → i < length xs → at i ≡ q → j ≡ i + 1 → how_many q j ≡ how_many q i + 1
  more_yes q i j l e next = ap (how_many q) next ∙ count_by_more_yes (λ x. key x == q) xs i d l (eq-eqb (at i) q e)

  more_no : (q i j : ℕ) → i < length xs → (at i ≡ q → ⊥) → j ≡ i + 1 → how_many q j ≡ how_many q i
  more_no q i j l apart next = ap (how_many q) next ∙ count_by_more_no (λ x. key x == q) xs i d l (ne_eqb (at i) q apart)

  -- none where all are less
  none_yet : (q i : ℕ) → i ≤ length xs → ((k : ℕ) → k < i → at k < q) → how_many q i ≡ 0
  none_yet q zero l low = refl
  none_yet q (suc i) l low = more_no q i (suc i) (omega arith) (λ e. omega (arith, low i (omega arith), e)) (omega arith) ∙ none_yet q i (omega arith) (λ k m. low k (omega arith))

  -- one more each
  all_more : (q n k m : ℕ) → m ≡ n + k → m ≤ length xs → ((i : ℕ) → n ≤ i → i < m → at i ≡ q) → how_many q m ≡ how_many q n + k
  all_more q n zero m e l same = let same_place : m ≡ n = omega arith in let kept : how_many q m ≡ how_many q n = ap (how_many q) same_place in omega (arith, kept)
  all_more q n (suc k) m e l same =
      let before : how_many q (n + k) ≡ how_many q n + k = all_more q n k (n + k) refl (omega arith) (λ i a b. same i a (omega arith)) in
      let more : how_many q m ≡ how_many q (n + k) + 1 = more_yes q (n + k) m (omega arith) (same (n + k) (omega arith) (omega arith)) (omega arith) in
      omega (arith, more, before)

  -- at most one more each
  most_more : (q n k m : ℕ) → m ≡ n + k → m ≤ length xs → how_many q m ≤ how_many q n + k
  most_more q n zero m e l = let same_place : m ≡ n = omega arith in let kept : how_many q m ≡ how_many q n = ap (how_many q) same_place in omega (arith, kept)
  most_more q n (suc k) m e l =
      let before : how_many q (n + k) ≤ how_many q n + k = most_more q n k (n + k) refl (omega arith) in
      elim (cases_eq (at (n + k)) q) [
        | inl here ↦ let more : how_many q m ≡ how_many q (n + k) + 1 = more_yes q (n + k) m (omega arith) here (omega arith) in omega (arith, more, before)
        | inr apart ↦ let more : how_many q m ≡ how_many q (n + k) = more_no q (n + k) m (omega arith) apart (omega arith) in omega (arith, more, before)
      ]

  -- the keys never fall, and none is above q
  pub record RisesTo (q : ℕ) : Type 0 where
    pub rises : (i j : ℕ) → i ≤ j → j < length xs → key (slice_index_or xs i d) ≤ key (slice_index_or xs j d)
    pub most : (i : ℕ) → i < length xs → key (slice_index_or xs i d) ≤ q

  whole : (q : ℕ) → how_many q (length xs) ≡ count_by (λ x. key x == q) xs
  whole q = ap (λ ys. count_by (λ x. key x == q) ys) (take_all (length xs) xs (omega arith))

  -- the last n of the list begin with the key q exactly where n of the list have it
  pub tail_has : (q n : ℕ) → RisesTo q → 0 < n → n ≤ length xs → (key (slice_index_or xs (length xs - n) d) ≡ q) ↔ (n ≤ count_by (λ x. key x == q) xs)
  tail_has q n r some l = (
    λ e. omega (
      arith,
      whole q,
      all_more q (length xs - n) n (length xs) (omega arith) (omega arith) (λ i a b. omega (arith, r.rises (length xs - n) i a b, r.most i b, e)),
    ),
    λ h. elim (cases_eq (at (length xs - n)) q) [
      | inl here ↦ here
      | inr apart ↦
          let m : ℕ = length xs - n + 1 in
          let first : at (length xs - n) ≤ q = r.most (length xs - n) (omega arith) in
          let none : how_many q m ≡ 0 = none_yet q m (omega arith) (λ k b. omega (arith, r.rises k (length xs - n) (omega arith) (omega arith), first, apart)) in
          absurd (omega (arith, none, most_more q m (n - 1) (length xs) (omega arith) (omega arith), whole q, h))
    ],
  )

-- the same where the keys of no two fall, and none is above q
pub last_has : {X : Type 0} (key : X → ℕ) (xs : List X) (d : X) (q n p : ℕ) → AllPairs (λ x y. key x ≤ key y) xs → All (λ x. key x ≤ q) xs → 0 < n → n + p ≡ length xs → IsTrue (key (slice_index_or xs p d) == q) ↔ (n ≤ count_by (λ x. key x == q) xs)
last_has key xs d q n p rises most some e =
    let at : p ≡ length xs - n = omega (arith, e) in
    let up : RisesTo key xs d q = record {
      rises = λ i j l m. elim (cases_eq i j) [
        | inl same ↦ omega (arith, ap (λ k. key (slice_index_or xs k d)) same)
        | inr apart ↦ rises i j d (omega (arith, l, apart)) m
      ];
      most = λ i l. most i d l;
    } in
    let has : (key (slice_index_or xs p d) ≡ q) ↔ (n ≤ count_by (λ x. key x == q) xs) = subst (λ k. (key (slice_index_or xs k d) ≡ q) ↔ (n ≤ count_by (λ x. key x == q) xs)) (sym at) (tail_has key xs d q n up some (omega (arith, e))) in
    (λ t. has.0 (eqb-true (key (slice_index_or xs p d)) q t), λ h. eq-eqb (key (slice_index_or xs p d)) q (has.1 h))

-- When one row of bits has all that another has.
use Rattle.std.proofs.Common.{◌≡◌, ℕ, ◌+◌, ◌*◌, ◌^◌, ◌/◌, ◌%◌, ◌<◌, ◌≤◌, inl, inr, ◌==◌, IsTrue, List, length, sym, ◌∙◌, ap, arith, slice_index, bit_or, max}
use Rattle.std.specs.Int.{bit_at}
use Rattle.std.proofs.lemmas.Bool.{cases_eq, cases_lt, eq-eqb, eqb-true}
use Rattle.std.proofs.lemmas.Nat.Bits.{bit_at_or, bit_at-lt, bit_at-zero, same_from_bits, bit_at_above}
use Rattle.std.proofs.lemmas.List.{get_or_past}
use Rattle.hq_bits.specs.Bits.{has, Covers}

-- so far as the first i words
pub record CoversUpto (row other : List ℕ) (i : ℕ) : Type 0 where
  pub words : (k : ℕ) → k < i → bit_or (slice_index row k) (slice_index other k) ≡ slice_index row k

-- all words are covered, so all numbers are
pub covers_all : (row other : List ℕ) (i : ℕ) → length row ≡ length other → length row ≤ i → CoversUpto row other i → Covers row other
covers_all row other i e l u p h = elim (cases_lt (p / 64) (length row)) [
  | inl low ↦
      let a : ℕ = bit_at (slice_index row (p / 64)) (p % 64) in
      let b : ℕ = bit_at (slice_index other (p / 64)) (p % 64) in
      let same : max a b ≡ a = sym (bit_at_or (slice_index row (p / 64)) (slice_index other (p / 64)) (p % 64)) ∙ ap (λ w. bit_at w (p % 64)) (u.words (p / 64) (omega arith)) in
      let one : b ≡ 1 = eqb-true b 1 h in
      (eq-eqb a 1 (omega (arith, bit_at-lt (slice_index row (p / 64)) (p % 64))))
  | inr high ↦
      let z : slice_index other (p / 64) ≡ 0 = get_or_past other (p / 64) 0 (omega arith) in
      let none : bit_at (slice_index other (p / 64)) (p % 64) ≡ 0 = ap (λ w. bit_at w (p % 64)) z ∙ bit_at-zero (p % 64) in
      let one : bit_at (slice_index other (p / 64)) (p % 64) ≡ 1 = eqb-true (bit_at (slice_index other (p / 64)) (p % 64)) 1 h in
      absurd (omega arith)
]

word_of : (k j : ℕ) → j < 64 → (k * 64 + j) / 64 ≡ k
word_of k j l = omega arith

bit_of : (k j : ℕ) → j < 64 → (k * 64 + j) % 64 ≡ j
bit_of k j l = omega arith

-- and where the numbers are covered, each word is
pub word_covered : (row other : List ℕ) (k : ℕ) → slice_index other k < 2 ^ 64 → Covers row other → bit_or (slice_index row k) (slice_index other k) ≡ slice_index row k
word_covered row other k fits c =
    same_from_bits (bit_or (slice_index row k) (slice_index other k)) (slice_index row k) (λ j.
    let a : ℕ = bit_at (slice_index row k) j in
    let b : ℕ = bit_at (slice_index other k) j in
    bit_at_or (slice_index row k) (slice_index other k) j ∙ elim (cases_lt j 64) [
      | inl low ↦ elim (cases_eq b 1) [
        | inl one ↦
            let p : ℕ = k * 64 + j in
            let here : IsTrue (has other p) = (ap (λ w. bit_at (slice_index other w) (p % 64) == 1) (word_of k j low) ∙ ap (λ i. bit_at (slice_index other k) i == 1) (bit_of k j low) ∙ eq-eqb b 1 one) in
            let there : a ≡ 1 = ap (λ i. bit_at (slice_index row k) i) (sym (bit_of k j low)) ∙ ap (λ w. bit_at (slice_index row w) (p % 64)) (sym (word_of k j low)) ∙ eqb-true (bit_at (slice_index row (p / 64)) (p % 64)) 1 (c p here) in
            omega arith
        | inr other_bit ↦ omega (arith, bit_at-lt (slice_index other k) j)
      ]
      | inr high ↦ omega (arith, bit_at_above (slice_index other k) 64 j fits high)
    ])

-- The least number that two rows have.
use Rattle.std.proofs.Common.{◌≡◌, ℕ, ◌+◌, ◌*◌, ◌/◌, ◌%◌, ◌<◌, inl, inr, List, sym, ◌∙◌, ap, subst, arith, IsTrue, ◌==◌, slice_index, bit_and, min}
use Rattle.std.specs.Int.{bit_at}
use Rattle.std.proofs.lemmas.Bool.{cases_lt, eq-eqb, eqb-true}
use Rattle.std.proofs.lemmas.Nat.Bits.{bit_at_and, bit_at-lt}
use Rattle.hq_bits.specs.Bits.{has, IsFirstCommon}

both_bits : (a b i : ℕ) → bit_at (bit_and a b) i ≡ 1 → (bit_at a i ≡ 1) × (bit_at b i ≡ 1)
both_bits a b i h =
    let m : min (bit_at a i) (bit_at b i) ≡ 1 = sym (bit_at_and a b i) ∙ h in
    let la : bit_at a i < 2 = bit_at-lt a i in
    let lb : bit_at b i < 2 = bit_at-lt b i in
    (omega arith, omega arith)

no_bit : (a b i : ℕ) → bit_at (bit_and a b) i ≡ 0 → bit_at a i ≡ 1 → bit_at b i ≡ 1 → ⊥
no_bit a b i h x y =
    let m : min (bit_at a i) (bit_at b i) ≡ 0 = sym (bit_at_and a b i) ∙ h in
    omega arith

-- no number of the first words is in both
abbrev pub Apart : List ℕ → List ℕ → ℕ → Type 0
Apart left right i = (n : ℕ) → n / 64 < i → IsTrue (has left n) → IsTrue (has right n) → ⊥

has_at : (row : List ℕ) (n i : ℕ) → n / 64 ≡ i → IsTrue (has row n) → bit_at (slice_index row i) (n % 64) ≡ 1
has_at row n i e h = subst (λ k. bit_at (slice_index row k) (n % 64) ≡ 1) e (eqb-true (bit_at (slice_index row (n / 64)) (n % 64)) 1 h)

pub apart_next : (left right : List ℕ) (i : ℕ) → Apart left right i → ((bit : ℕ) → bit_at (bit_and (slice_index left i) (slice_index right i)) bit ≡ 0) → Apart left right (i + 1)
apart_next left right i h none n l a b = elim (cases_lt (n / 64) i) [
  | inl low ↦ h n low a b
  | inr high ↦
      let here : n / 64 ≡ i = omega arith in
      no_bit (slice_index left i) (slice_index right i) (n % 64) (none (n % 64)) (has_at left n i here a) (has_at right n i here b)
]

place_of : (i bit : ℕ) → bit < 64 → (i * 64 + bit) / 64 ≡ i
place_of i bit l = omega arith

bit_of : (i bit : ℕ) → bit < 64 → (i * 64 + bit) % 64 ≡ bit
bit_of i bit l = omega arith

-- the number at a word's bit
pub has_there : (row : List ℕ) (i bit : ℕ) → bit < 64 → bit_at (slice_index row i) bit ≡ 1 → IsTrue (has row (i * 64 + bit))
has_there row i bit l e =
    ap (λ k. bit_at (slice_index row k) ((i * 64 + bit) % 64) == 1) (place_of i bit l)
    ∙ ap (λ k. bit_at (slice_index row i) k == 1) (bit_of i bit l)
    ∙ eq-eqb (bit_at (slice_index row i) bit) 1 e

pub first_there : (left right : List ℕ) (i bit : ℕ) → Apart left right i → bit < 64
    → bit_at (bit_and (slice_index left i) (slice_index right i)) bit ≡ 1
    → ((k : ℕ) → k < bit → bit_at (bit_and (slice_index left i) (slice_index right i)) k ≡ 0)
    → IsFirstCommon left right (i * 64 + bit)
first_there left right i bit h l this lower =
    let b = both_bits (slice_index left i) (slice_index right i) bit this in
    record {
      in_left = has_there left i bit l b.0;
      in_right = has_there right i bit l b.1;
      first = λ n below x y. elim (cases_lt (n / 64) i) [
        | inl low ↦ h n low x y
        | inr high ↦
            let here : n / 64 ≡ i = omega arith in
            no_bit (slice_index left i) (slice_index right i) (n % 64) (lower (n % 64) (omega arith)) (has_at left n i here x) (has_at right n i here y)
      ];
    }

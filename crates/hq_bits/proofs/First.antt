-- The least number of a set, from one on.
use Rattle.std.proofs.Common.{◌≡◌, ℕ, ◌+◌, ◌-◌, ◌*◌, ◌/◌, ◌%◌, ◌^◌, ◌<◌, ◌≤◌, List, true, false, sym, ◌∙◌, ap, subst, arith, inl, inr, ◌==◌, slice_index}
use Rattle.std.specs.Int.{bit_at}
use Rattle.std.proofs.Math.Nat.{div-div-eq-div-mul}
use Rattle.std.proofs.lemmas.Nat.{pow-add}
use Rattle.std.proofs.lemmas.Nat.Bits.{bit_at_above}
use Rattle.std.proofs.lemmas.Bool.{cases_lt}
use Rattle.hq_bits.specs.Bits.{has, IsFirstFrom}
use Rattle.hq_bits.proofs.Shared.{has_there}

pub shifted : (w s i : ℕ) → bit_at (w / 2 ^ s) i ≡ bit_at w (s + i)
shifted w s i = ap (λ m. m % 2) (div-div-eq-div-mul w (2 ^ s) (2 ^ i) ∙ ap (λ p. w / p) (sym (pow-add 2 s i)))

lacks : (row : List ℕ) (n : ℕ) → bit_at (slice_index row (n / 64)) (n % 64) ≡ 0 → has row n ≡ false
lacks row n e = ap (λ b. b == 1) e

-- none of the numbers from one on, in the words ahead of a place
abbrev pub NoneIn : List ℕ → ℕ → ℕ → Type 0
NoneIn row from place = (n : ℕ) → from ≤ n → n / 64 < place → has row n ≡ false

-- the numbers behind it in its own word
pub first_word : (row : List ℕ) (from limit : ℕ) → ((i : ℕ) → i < limit → bit_at (slice_index row (from / 64) / 2 ^ (from % 64)) i ≡ 0) → (n : ℕ) → from ≤ n → n / 64 ≡ from / 64 → n < from + limit → has row n ≡ false
first_word row from limit none n above same low =
    let s : ℕ = from % 64 in
    let i : s + (n % 64 - s) ≡ n % 64 = omega arith in
    lacks row n
    (ap (λ k. bit_at (slice_index row k) (n % 64)) same ∙ ap (bit_at (slice_index row (from / 64))) (sym i) ∙ sym (shifted (slice_index row (from / 64)) s (n % 64 - s)) ∙ none (n % 64 - s) (omega arith))

never : (w i : ℕ) → bit_at w i ≡ 1 → bit_at w i ≡ 0 → ⊥
never w i x y = omega (arith, x, y)

-- a bit of what is left of a word is one of the word's
pub bit_is_low : (row : List ℕ) (from bit : ℕ) → slice_index row (from / 64) < 2 ^ 64 → bit_at (slice_index row (from / 64) / 2 ^ (from % 64)) bit ≡ 1 → from % 64 + bit < 64
bit_is_low row from bit small this =
    let s : ℕ = from % 64 in
    let here : bit_at (slice_index row (from / 64)) (s + bit) ≡ 1 = sym (shifted (slice_index row (from / 64)) s bit) ∙ this in
    elim (cases_lt (s + bit) 64) [ inl l ↦ l | inr high ↦ absurd (never (slice_index row (from / 64)) (s + bit) here (bit_at_above (slice_index row (from / 64)) 64 (s + bit) small high)) ]

pub in_first_word : (row : List ℕ) (from bit : ℕ) → slice_index row (from / 64) < 2 ^ 64 → bit_at (slice_index row (from / 64) / 2 ^ (from % 64)) bit ≡ 1 → ((i : ℕ) → i < bit → bit_at (slice_index row (from / 64) / 2 ^ (from % 64)) i ≡ 0) → IsFirstFrom row from (from + bit)
in_first_word row from bit small this none =
    let s : ℕ = from % 64 in
    let here : bit_at (slice_index row (from / 64)) (s + bit) ≡ 1 = sym (shifted (slice_index row (from / 64)) s bit) ∙ this in
    let low : s + bit < 64 = bit_is_low row from bit small this in
    let whole : from / 64 * 64 + (s + bit) ≡ from + bit = omega arith in
    record {
      above = omega arith;
      there = subst (λ n. has row n ≡ true) whole (has_there row (from / 64) (s + bit) low here);
      first = λ i above below. first_word row from bit none i above (omega (arith, low)) below;
    }

pub none_first : (row : List ℕ) (from : ℕ) → ((i : ℕ) → bit_at (slice_index row (from / 64) / 2 ^ (from % 64)) i ≡ 0) → NoneIn row from (from / 64 + 1)
none_first row from none = λ n above low. first_word row from (n + 1) (λ i l. none i) n above (omega arith) (omega arith)

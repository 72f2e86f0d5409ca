-- Going over numbers that a set has.
use Rattle.std.proofs.Common.{◌≡◌, ℕ, ◌+◌, ◌-◌, ◌*◌, ◌/◌, ◌%◌, ◌^◌, ◌<◌, ◌≤◌, List, Bool, true, false, not, ◌&&◌, refl, sym, ◌∙◌, ap, arith, ◌==◌, IsTrue, slice_index}
use Rattle.std.specs.Int.{bit_at}
use Rattle.std.proofs.lemmas.Nat.Bits.{bit_at_ones}
use Rattle.hq_bits.specs.Bits.{has}
use Rattle.hq_bits.proofs.First.{shifted}

not_lacked : (b : Bool) → false ≡ (true && not b) → b ≡ true
not_lacked true e = refl
not_lacked false e = absurd (let x : false ≡ true = e in cc)

-- a number of the next one's word that isn't among those that are absent from there on
pub present : (row : List ℕ) (next absent n : ℕ) → ((bit : ℕ) → (bit_at absent bit == 1) ≡ ((bit_at 18446744073709551615 bit == 1) && not (bit_at (slice_index row (next / 64)) bit == 1)))
    → next ≤ n → n < next / 64 * 64 + 64 → bit_at (absent / 2 ^ (next % 64)) (n - next) ≡ 0 → IsTrue (has row n)
present row next absent n is above below none =
    let word : ℕ = slice_index row (next / 64) in
    let place : n / 64 ≡ next / 64 = omega arith in
    let at : next % 64 + (n - next) ≡ n % 64 = omega arith in
    let full : bit_at 18446744073709551615 (n % 64) ≡ 1 = bit_at_ones 64 (n % 64) (omega arith) in
    let gone : bit_at absent (n % 64) ≡ 0 = ap (bit_at absent) (sym at) ∙ sym (shifted absent (next % 64) (n - next)) ∙ none in
    let left : false ≡ (true && not (bit_at word (n % 64) == 1)) =
    sym (ap (λ b. b == 1) gone) ∙ is (n % 64) ∙ ap (λ b. (b == 1) && not (bit_at word (n % 64) == 1)) full in
    ap (λ k. bit_at (slice_index row k) (n % 64) == 1) place ∙ not_lacked (bit_at word (n % 64) == 1) left

use Rattle.std.proofs.Common.{◌≡◌, ℕ, ◌/◌, ◌%◌, ◌==◌, Bool, true, false, inl, inr, refl, sym, ◌∙◌, ap, arith, slice_index}
use Rattle.std.specs.Int.{bit_at}
use Rattle.std.proofs.lemmas.Bool.{cases_eq, eqb-true}
use Rattle.std.proofs.lemmas.Nat.Bits.{bit_at_or, bit_at-zero}
use Rattle.hq_bits.specs.Bits.{has}
use Rattle.hq_bits.proofs.Words.{within}
use Rattle.hq_derive.proofs.needs.is_bare.Goals as goal

pub loop-word-preserved : goal.loop-word-preserved
loop-word-preserved c = λ i bit below is.
    let word = slice_index c.args.row.now c.loop-word.word-index in
    elim (cases_eq i c.loop-word.word-index) [
      | inl here ↦ let own : bit_at word bit ≡ 1 = ap (λ k. bit_at (slice_index c.args.row.now k) bit) (sym here) ∙ is in omega (arith, own, bit_at_or c.loop-word.all word bit)
      | inr apart ↦ let known : bit_at c.loop-word.all bit ≡ 1 = c.loop-word.invariant i bit (omega (arith, below, apart)) is in omega (arith, known, bit_at_or c.loop-word.all word bit)
    ]

pub returns : goal.returns
returns c = λ t r. none r (has c.args.row.now r) refl t
  where
    none : (r : ℕ) (b : Bool) → has c.args.row.now r ≡ b → c.loop-word.all == 0 ≡ true → has c.args.row.now r ≡ false
    none r false e t = e
    none r true e t =
        let low = within c.args.row.now r e in
        let one = c.loop-word.invariant (r / 64) (r % 64) (omega (arith, low, c.loop-word-test.false)) (eqb-true (bit_at (slice_index c.args.row.now (r / 64)) (r % 64)) 1 e) in
        let zero : bit_at c.loop-word.all (r % 64) ≡ 0 = ap (λ w. bit_at w (r % 64)) (eqb-true c.loop-word.all 0 t) ∙ bit_at-zero (r % 64) in
        absurd (omega (arith, one, zero))

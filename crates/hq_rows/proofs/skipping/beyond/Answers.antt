use Rattle.std.proofs.Common.{◌≡◌, ◌+◌, ◌-◌, ◌/◌, ◌%◌, ◌^◌, ◌∙◌, ap, arith}
use Rattle.std.specs.Int.{bit_at}
use Rattle.std.proofs.lemmas.Nat.Bits.{bit_at-zero}
use Rattle.hq_rows.proofs.Present.{present}
use Rattle.hq_rows.proofs.skipping.beyond.Goals as goal

pub returns-then-absent-eq0-clause-has : goal.returns-then-absent-eq0-clause-has
returns-then-absent-eq0-clause-has c = λ r above below.
    let none : bit_at (c.less.result / 2 ^ ((c.args.number + 1) % 64)) (r - (c.args.number + 1)) ≡ 0 = ap (λ w. bit_at w (r - (c.args.number + 1))) c.if-absent-eq0.true ∙ bit_at-zero (r - (c.args.number + 1)) in
    present c.args.row.now (c.args.number + 1) c.less.result r (rw c.word_at.ensures at c.less.ensures) (omega arith) (omega arith) none

pub returns-clause-has : goal.returns-clause-has
returns-clause-has c = λ r above below.
    present c.args.row.now (c.args.number + 1) c.less.result r (rw c.word_at.ensures at c.less.ensures) (omega arith) (omega (arith, c.min.ensures))
    (c.lowest.ensures.lowest (r - (c.args.number + 1)) (omega (arith, c.min.ensures)))

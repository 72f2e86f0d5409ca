use Rattle.hq_bits.proofs.Shared.{apart_next, first_there}
use Rattle.hq_bits.proofs.first_common.Goals as goal

pub returns-in-Some : goal.returns-in-Some
returns-in-Some c =
    let found = rw c.word_at.ensures at c.in-Some.ensures in
    first_there c.args.left.now c.args.right.now c.loop-i.i c.in-Some.bit c.loop-i.invariant found.0 found.1 found.2

pub loop-i-preserved : goal.loop-i-preserved
loop-i-preserved c = apart_next c.args.left.now c.args.right.now c.loop-i.i c.loop-i.invariant (rw c.word_at.ensures at c.in_default.ensures)

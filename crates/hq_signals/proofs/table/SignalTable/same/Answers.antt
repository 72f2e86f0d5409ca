use Rattle.std.proofs.Common.{refl, arith}
use Rattle.hq_signals.proofs.Places.{same_to_the_end}
use Rattle.hq_signals.proofs.table.SignalTable.same.Goals as goal

pub returns : goal.returns
returns c = (
  λ _. same_to_the_end c.args.self.now c.args.other.now c.loop-index.index (omega (arith, c.if-len.false, c.len.ensures.value, c.len-2.ensures.value)) (omega (arith, c.loop-index-test.false, c.len-index-end.ensures.value)) c.loop-index.invariant,
  λ _. refl,
)

use Rattle.std.proofs.Common.{refl, arith}
use Rattle.hq_signals.proofs.Places.{same_to_the_end}
use Rattle.hq_job.proofs.same.same_kernels.Goals as goal

pub returns : goal.returns
returns c = (
  λ _. same_to_the_end c.args.first.now c.args.second.now c.loop-i.i (omega (arith, c.if-first-second.false)) c.loop-i-test.false c.loop-i.invariant,
  λ _. refl,
)

use Rattle.hq_parts.proofs.Parting.{one_more}
use Rattle.hq_parts.proofs.parts.run_of_parts.Goals as goal

pub loop-step-preserved : goal.loop-step-preserved
loop-step-preserved c = one_more c.loop-step.parts c.args.first c.loop-step.step c.loop-step.invariant

use Rattle.std.proofs.lemmas.Grind.{common_steps}
use Rattle.std.proofs.Common.{below_more, arith}
use Rattle.hq_job.specs.Plan.{plan}
use Rattle.hq_ordercheck.specs.Placed.{HasWaited}
use Rattle.hq_ordercheck.proofs.waits.all_have_waited.Goals as goal

pub loop-r-preserved : goal.loop-r-preserved
loop-r-preserved c = below_more (HasWaited (plan c.args.job.now) c.args.places.now) c.loop-r.r c.loop-r.invariant (c.has_waited.ensures.0 c.if-not-has_waited.false)

pub returns-then-not-has_waited : goal.returns-then-not-has_waited
returns-then-not-has_waited c = grind (arith, common_steps)

pub returns : goal.returns
returns c = grind (arith, common_steps)

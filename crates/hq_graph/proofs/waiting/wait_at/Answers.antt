use Rattle.hq_job.specs.Plan.{plan}
use Rattle.hq_graph.proofs.Reasons.{awaits_if, some_stuck}
use Rattle.hq_graph.proofs.waiting.wait_at.Goals as goal

pub way_of-requires-clause-some : goal.way_of-requires-clause-some
way_of-requires-clause-some c = some_stuck (plan c.args.job.now) c.args.stuck.now c.args.r c.requires.tells c.requires.stuck

pub returns-then-has : goal.returns-then-has
returns-then-has c = awaits_if (plan c.args.job.now) c.args.p c.args.r c.way_of.result (c.has.ensures.0 c.if-has.true) c.requires.stuck c.way_of.ensures

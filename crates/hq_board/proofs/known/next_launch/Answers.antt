use Rattle.std.proofs.Common.{refl}
use Rattle.hq_job.specs.Plan.{plan}
use Rattle.hq_board.proofs.Knowing.{launches_if, launches_none}
use Rattle.hq_board.proofs.known.next_launch.Goals as goal

pub returns-then-not-is_ready : goal.returns-then-not-is_ready
returns-then-not-is_ready c = launches_none (plan c.args.job.now) c.args.known.now c.requires.tied c.is_ready.result c.if-not-is_ready.true c.is_ready.ensures

pub returns : goal.returns
returns c = (launches_if (plan c.args.job.now) c.args.known.now c.requires.tied (c.is_ready.ensures.0 c.if-not-is_ready.false), refl, (c.is_ready.ensures.0 c.if-not-is_ready.false).room)

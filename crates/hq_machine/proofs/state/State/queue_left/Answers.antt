use Rattle.hq_job.specs.Plan.{plan}
use Rattle.hq_machine.proofs.WorkLeft.{launch_left}
use Rattle.hq_machine.proofs.state.State.queue_left.Goals as goal

pub returns : goal.returns
returns c = launch_left (plan c.args.job.now) c.args.self.now c.args.queue c.in_ok-launchable.field-0 c.in_ok-launchable.ensures

use Rattle.hq_job.specs.Plan.{plan}
use Rattle.hq_machine.proofs.WorkLeft.{submit_left}
use Rattle.hq_machine.proofs.state.State.submit_left.Goals as goal

pub returns : goal.returns
returns c = submit_left (plan c.args.job.now) c.args.self.now c.in_ok-submittable.field-0 c.in_ok-submittable.ensures

use Rattle.std.proofs.Common.{ap, get_or, false}
use Rattle.hq_job.specs.Plan.{plan}
use Rattle.hq_machine.specs.View.{state_of}
use Rattle.hq_machine.proofs.state.State.is_wait_over.Goals as goal

pub returns : goal.returns
returns c = c.wait_is_over.ensures (state_of (plan c.args.job.now) c.args.self.now) (λ slot. ap (λ row. get_or row slot false) c.slots_of.ensures)

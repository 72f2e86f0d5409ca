use Rattle.hq_job.specs.Plan.{plan}
use Rattle.hq_machine.proofs.Reading.{readable_from}
use Rattle.hq_machine.specs.View.{state_of}
use Rattle.hq_machine.proofs.state.State.readable.Goals as goal

pub returns : goal.returns
returns c = readable_from (plan c.args.job.now) (state_of (plan c.args.job.now) c.args.self.now) c.args.packet c.args.entry c.read_at.result (c.is_read_open.ensures.0 c.if-not-is_read_open.false) c.read_at.ensures

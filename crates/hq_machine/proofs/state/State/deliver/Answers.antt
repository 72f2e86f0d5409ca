use Rattle.std.proofs.Common.{◌<◌, length, arith}
use Rattle.hq_job.specs.Plan.{plan}
use Rattle.hq_model.specs.Job.{packet}
use Rattle.hq_machine.proofs.EachStore.{deliver_possible}
use Rattle.hq_machine.proofs.state.State.deliver.Goals as goal

pub deliver_given-requires-clause-bytes : goal.deliver_given-requires-clause-bytes
deliver_given-requires-clause-bytes c = λ may.
    let some : 0 < length (packet (plan c.args.job.now) c.args.packet).writes = omega arith in
    c.requires.bytes (deliver_possible (plan c.args.job.now) c.args.self.now c.args.packet c.valid.ensures.valid c.requires.is (may 0 some).is_packet may some)

use Rattle.hq_job.specs.Plan.{plan}
use Rattle.hq_machine.specs.View.{state_of}
use Rattle.hq_witness.proofs.Traces.{read_follows, other_read_follows}
use Rattle.hq_witness.proofs.trace.Trace.note_read.Goals as goal

pub returns-then-not-is_read_as : goal.returns-then-not-is_read_as
returns-then-not-is_read_as c =
    let job = plan c.args.job.now in
    other_read_follows job (state_of job c.args.state.now) c.args.self.now c.args.packet c.args.entry c.requires.fits

pub returns : goal.returns
returns c =
    let job = plan c.args.job.now in
    read_follows job (state_of job c.args.state.now) c.args.self.now c.args.packet c.args.entry c.seen_by_lane-origin.result c.push.new.self c.requires.fits c.requires.packet c.requires.entry (c.is_read_as.ensures.0 c.if-not-is_read_as.false)
    c.seen_by_lane-origin.ensures c.in_ok-push.ensures.items

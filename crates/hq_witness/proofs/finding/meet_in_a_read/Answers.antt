use Rattle.std.proofs.Common.{subst}
use Rattle.hq_job.specs.Conflicts.{HasConflicts}
use Rattle.hq_witness.proofs.Meeting.{met_written, met_read}
use Rattle.hq_witness.proofs.finding.meet_in_a_read.Goals as goal

pub returns-then-kinds : goal.returns-then-kinds
returns-then-kinds c =
    let v = c.args.known.before.now in
    met_written v c.args.a c.args.b c.kinds-kinds.result (subst (λ j. HasConflicts j c.args.a c.args.b c.kinds-kinds.result) c.job.ensures c.kinds-kinds.ensures) c.if-kinds.true

pub returns-else-kinds : goal.returns-else-kinds
returns-else-kinds c =
    let v = c.args.known.before.now in
    met_read v c.args.a c.args.b c.kinds-kinds.result (subst (λ j. HasConflicts j c.args.a c.args.b c.kinds-kinds.result) c.job.ensures c.kinds-kinds.ensures) c.if-kinds.false

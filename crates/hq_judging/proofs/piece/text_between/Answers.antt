use Rattle.std.proofs.Common.{ap, Some}
use Rattle.hq_job.specs.Plan.{plan}
use Rattle.hq_judging.specs.Places.{IsTextBetween}
use Rattle.hq_judging.proofs.Audited.{given_such}
use Rattle.hq_judging.proofs.piece.text_between.Goals as goal

pub returns : goal.returns
returns c =
    given_such (IsTextBetween (plan c.args.job.now) c.args.audited.now c.args.from c.args.to) c.give.new.writer.items
    (ap Some c.in-Ok.ensures.items) c.in-Ok-new.ensures.empty c.in-Ok-print_between.ensures.prints c.in-Ok-give.ensures

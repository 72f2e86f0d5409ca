use Rattle.std.proofs.Common.{ap, subst}
use Rattle.hq_status.specs.Reports.{Reported}
use Rattle.hq_cli.specs.Answered.{AnswerReport}
use Rattle.hq_cli.proofs.OfFiles.{has_judged}
use Rattle.hq_cli.proofs.answer.Goals as goal

pub returns-in-Some : goal.returns-in-Some
returns-in-Some g c = has_judged c.args.asked.now _ _ c.in-Some.status c.in-Some.ensures

pub returns-in-None : goal.returns-in-None
returns-in-None g c =
    subst (λ old. Reported (AnswerReport c.args.asked.now) old (g.W.Write.contents c.answer_else.new.writer) c.answer_else.result) (ap g.W.Write.contents c.in-None.ensures.1) c.answer_else.ensures

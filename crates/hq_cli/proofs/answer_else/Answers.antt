use Rattle.std.proofs.Common.{subst, sym}
use Rattle.hq_status.specs.Reports.{Reported}
use Rattle.hq_words.specs.declared.words.Asked.{Asked}
use Rattle.hq_cli.specs.Answered.{AnswerReport}
use Rattle.hq_cli.proofs.answer_else.Goals as goal

pub returns-in-Chart : goal.returns-in-Chart
returns-in-Chart g c =
    subst (λ (asked : Asked). Reported (AnswerReport asked) (g.W.Write.contents c.args.writer.now) (g.W.Write.contents c.chart.new.writer) c.chart.result) (sym c.in-Chart.is) c.chart.ensures

use Rattle.std.proofs.Common.{◌⊎◌, false, codes, subst}
use Rattle.hq_chart.specs.Chart.{chart_text}
use Rattle.hq_status.specs.Reports.{Said, with_feed}
use Rattle.hq_status.specs.declared.status.Status.TheVariants.{Done, Memory}
use Rattle.hq_engines.proofs.Charts.{drawn_reported}
use Rattle.hq_engines.proofs.chart.chart_found.Goals as goal

pub returns-in-Ok : goal.returns-in-Ok
returns-in-Ok g c =
    drawn_reported c.args.job.now c.args.copies c.args.journal.now _ _ _ c.say_chart.result c.in-Ok.ensures.replayed
    (subst (λ events. Said (g.W.Write.contents c.args.writer.now) (g.W.Write.contents c.say_chart.new.writer) (chart_text c.args.job.now c.args.copies events false) Done c.say_chart.result
    ⊎ Said (g.W.Write.contents c.args.writer.now) (g.W.Write.contents c.say_chart.new.writer) (with_feed (codes "out of memory")) Memory c.say_chart.result) c.events.ensures c.say_chart.ensures)

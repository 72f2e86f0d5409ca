use Rattle.std.proofs.Common.{◌⊎◌, ◌∙◌, ap, true, codes, subst, take}
use Rattle.hq_chart.specs.Chart.{chart_text}
use Rattle.hq_job.specs.Plan.{plan}
use Rattle.hq_timeline.specs.Replays.{NotReplayed}
use Rattle.hq_engines.specs.Chart.ChartReport.{no_memory}
use Rattle.hq_status.specs.Reports.{Said, with_feed}
use Rattle.hq_status.specs.declared.status.Status.TheVariants.{DrawnUntil, Memory}
use Rattle.hq_engines.proofs.Charts.{stopped_reported}
use Rattle.hq_engines.proofs.chart.chart_stopped.Goals as goal

pub returns-in-NotEnabled : goal.returns-in-NotEnabled
returns-in-NotEnabled g c =
    stopped_reported c.args.job.now c.args.copies c.args.journal.now c.in-NotEnabled.place _ _ c.say_chart.result
    (subst (NotReplayed (plan c.args.job.now) c.args.journal.now) c.in-NotEnabled.is c.requires)
    (subst (λ events. Said (g.W.Write.contents c.args.writer.now) (g.W.Write.contents c.say_chart.new.writer) (chart_text c.args.job.now c.args.copies events true) (DrawnUntil c.in-NotEnabled.place) c.say_chart.result
    ⊎ Said (g.W.Write.contents c.args.writer.now) (g.W.Write.contents c.say_chart.new.writer) (with_feed (codes "out of memory")) Memory c.say_chart.result)
    (c.split_at.ensures.front ∙ ap (take c.in-NotEnabled.place) c.events.ensures) c.say_chart.ensures)

pub returns-in-Memory : goal.returns-in-Memory
returns-in-Memory g c = (with_feed (codes "out of memory"), Memory, no_memory, c.say_memory.ensures)

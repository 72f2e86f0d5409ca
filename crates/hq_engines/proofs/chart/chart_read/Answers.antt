use Rattle.std.proofs.Common.{ap}
use Rattle.hq_engines.specs.Chart.{ChartReport}
use Rattle.hq_engines.proofs.Replays.{timeline_missing, timeline_found}
use Rattle.hq_engines.proofs.chart.chart_read.Goals as goal

pub returns-in-Err : goal.returns-in-Err
returns-in-Err g c = timeline_missing _ g.S.Read.remaining c.args.timeline.now c.take_journal.new.reader (ChartReport c.args.job.now c.args.copies) _ _ c.in-Err.status c.in-Err.ensures.refused

pub returns-in-Ok : goal.returns-in-Ok
returns-in-Ok g c =
    timeline_found _ g.S.Read.remaining c.args.timeline.now c.take_journal.new.reader (ChartReport c.args.job.now c.args.copies) c.in-Ok.journal _ _ _ c.chart_found.result c.in-Ok.ensures.found (ap g.W.Write.contents c.in-Ok.ensures.unwritten) c.chart_found.ensures

use Rattle.std.proofs.Common.{ap}
use Rattle.hq_engines.specs.Chart.{ChartReport}
use Rattle.hq_engines.specs.Replay.{TimelineReport}
use Rattle.hq_status.specs.Reports.{JobTextReport}
use Rattle.hq_front.specs.Files.{FileReport}
use Rattle.hq_front.proofs.Files.{file_reported, of_jobs, of_reader, unopened}
use Rattle.hq_cli.proofs.reading.chart.Goals as goal

pub returns-in-Ok : goal.returns-in-Ok
returns-in-Ok g c =
    file_reported _ _ c.in-Ok.input c.chart_engine.new.reader _ (JobTextReport (λ value. FileReport (TimelineReport (ChartReport value c.args.copies))))
    (of_jobs _ (λ value. FileReport (TimelineReport (ChartReport value c.args.copies))) (λ value. of_reader _ _ _ _ (TimelineReport (ChartReport value c.args.copies)) (TimelineReport (ChartReport value c.args.copies)) (λ text out status part. part)))
    _ _ _ c.chart_engine.result (ap g.W.Write.contents c.in-Ok.ensures.unwritten) c.chart_engine.ensures

pub returns-in-Err : goal.returns-in-Err
returns-in-Err g c = unopened _ _ _ c.in-Err.status c.in-Err.ensures.unopened

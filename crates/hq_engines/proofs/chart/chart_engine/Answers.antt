use Rattle.std.proofs.Common.{ap}
use Rattle.hq_engines.specs.Chart.{ChartReport}
use Rattle.hq_engines.specs.Replay.{TimelineReport}
use Rattle.hq_status.specs.Reports.{ReaderReport}
use Rattle.hq_status.proofs.NoJobs.{job_missing, job_found}
use Rattle.hq_engines.proofs.chart.chart_engine.Goals as goal

pub returns-in-Err : goal.returns-in-Err
returns-in-Err g c =
    job_missing _ g.R.Read.remaining c.args.reader.now c.take_job.new.reader (λ job. ReaderReport _ g.S.Read.remaining c.args.timeline.now c.args.timeline.now (TimelineReport (ChartReport job c.args.copies))) _ _ c.in-Err.status c.in-Err.ensures.refused

pub returns-in-Ok : goal.returns-in-Ok
returns-in-Ok g c =
    job_found _ g.R.Read.remaining c.args.reader.now c.take_job.new.reader c.in-Ok.job (λ job. ReaderReport _ g.S.Read.remaining c.args.timeline.now c.chart_read-status.new.timeline (TimelineReport (ChartReport job c.args.copies))) _ _ _ c.chart_read-status.result
    c.in-Ok.ensures.found (ap g.W.Write.contents c.in-Ok.ensures.unwritten) c.chart_read-status.ensures

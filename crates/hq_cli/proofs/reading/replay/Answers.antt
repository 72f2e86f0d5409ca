use Rattle.std.proofs.Common.{ap}
use Rattle.hq_engines.specs.Replay.{RunReport, TimelineReport}
use Rattle.hq_status.specs.Reports.{JobTextReport}
use Rattle.hq_front.specs.Files.{FileReport}
use Rattle.hq_front.proofs.Files.{file_reported, of_jobs, of_reader, unopened}
use Rattle.hq_cli.proofs.reading.replay.Goals as goal

pub returns-in-Ok : goal.returns-in-Ok
returns-in-Ok g c =
    file_reported _ _ c.in-Ok.input c.replay_engine.new.reader _ (JobTextReport (λ value. FileReport (TimelineReport (RunReport value))))
    (of_jobs _ (λ value. FileReport (TimelineReport (RunReport value))) (λ value. of_reader _ _ _ _ (TimelineReport (RunReport value)) (TimelineReport (RunReport value)) (λ text out status part. part)))
    _ _ _ c.replay_engine.result (ap g.W.Write.contents c.in-Ok.ensures.unwritten) c.replay_engine.ensures

pub returns-in-Err : goal.returns-in-Err
returns-in-Err g c = unopened _ _ _ c.in-Err.status c.in-Err.ensures.unopened

use Rattle.std.proofs.Common.{ap}
use Rattle.hq_judging.specs.Check.{CertReport}
use Rattle.hq_status.specs.Reports.{JobTextReport}
use Rattle.hq_front.specs.Files.{FileReport}
use Rattle.hq_front.proofs.Files.{file_reported, of_jobs, of_reader, unopened}
use Rattle.hq_commands.proofs.judging.check.Goals as goal

pub returns-in-Ok : goal.returns-in-Ok
returns-in-Ok g c =
    file_reported _ _ c.in-Ok.input c.check_engine.new.reader _ (JobTextReport (λ value. FileReport (CertReport value)))
    (of_jobs _ (λ value. FileReport (CertReport value)) (λ job. of_reader _ _ _ _ (CertReport job) (CertReport job) (λ text out status part. part)))
    _ _ _ c.check_engine.result (ap g.W.Write.contents c.in-Ok.ensures.unwritten) c.check_engine.ensures

pub returns-in-Err : goal.returns-in-Err
returns-in-Err g c = unopened _ _ _ c.in-Err.status c.in-Err.ensures.unopened

use Rattle.std.proofs.Common.{ap}
use Rattle.hq_judging.specs.Check.{CertReport}
use Rattle.hq_status.specs.Reports.{ReaderReport}
use Rattle.hq_status.proofs.NoJobs.{job_missing, job_found}
use Rattle.hq_judging.proofs.check.check_engine.Goals as goal

pub returns-in-Err : goal.returns-in-Err
returns-in-Err g c =
    job_missing _ g.R.Read.remaining c.args.reader.now c.take_job.new.reader (λ job. ReaderReport _ g.S.Read.remaining c.args.certificate.now c.args.certificate.now (CertReport job)) _ _ c.in-Err.status c.in-Err.ensures.refused

pub returns-in-Ok : goal.returns-in-Ok
returns-in-Ok g c =
    job_found _ g.R.Read.remaining c.args.reader.now c.take_job.new.reader c.in-Ok.job (λ job. ReaderReport _ g.S.Read.remaining c.args.certificate.now c.check_read.new.certificate (CertReport job)) _ _ _ c.check_read.result
    c.in-Ok.ensures.found (ap g.W.Write.contents c.in-Ok.ensures.unwritten) c.check_read.ensures

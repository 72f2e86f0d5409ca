use Rattle.std.proofs.Common.{ap}
use Rattle.hq_job.specs.Plan.{plan}
use Rattle.hq_judging.specs.Audit.{JobReport}
use Rattle.hq_status.proofs.NoJobs.{job_missing, job_found}
use Rattle.hq_judging.proofs.audit.audit_wide_engine.Goals as goal

pub returns-in-Err : goal.returns-in-Err
returns-in-Err g c = job_missing _ g.R.Read.remaining c.args.reader.now c.take_job.new.reader (λ job. JobReport (plan job)) _ _ c.in-Err.status c.in-Err.ensures.refused

pub returns-in-Ok : goal.returns-in-Ok
returns-in-Ok g c =
    job_found _ g.R.Read.remaining c.args.reader.now c.take_job.new.reader c.in-Ok.job (λ job. JobReport (plan job)) _ _ _ c.say_found-status.result c.in-Ok.ensures.found (ap g.W.Write.contents c.in-Ok.ensures.unwritten) c.say_found-status.ensures

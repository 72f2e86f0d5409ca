use Rattle.std.proofs.Common.{ap}
use Rattle.hq_engines.specs.Explain.{ExplainReport}
use Rattle.hq_status.proofs.NoJobs.{job_missing, job_found}
use Rattle.hq_engines.proofs.explain.explain_engine.Goals as goal

pub returns-in-Err : goal.returns-in-Err
returns-in-Err g c = job_missing _ g.R.Read.remaining c.args.reader.now c.take_job.new.reader (ExplainReport c.args.which) _ _ c.in-Err.status c.in-Err.ensures.refused

pub returns-in-Ok : goal.returns-in-Ok
returns-in-Ok g c =
    job_found _ g.R.Read.remaining c.args.reader.now c.take_job.new.reader c.in-Ok.job (ExplainReport c.args.which) _ _ _ c.explain_found-status.result
    c.in-Ok.ensures.found (ap g.W.Write.contents c.in-Ok.ensures.unwritten) c.explain_found-status.ensures

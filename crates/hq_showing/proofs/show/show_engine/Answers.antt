use Rattle.std.proofs.Common.{ap}
use Rattle.hq_showing.specs.Show.{ShowReport, show_text}
use Rattle.hq_showing.specs.Show.ShowReport.{shows}
use Rattle.hq_status.specs.declared.status.Status.TheVariants.{Done}
use Rattle.hq_status.proofs.NoJobs.{job_missing, job_found}
use Rattle.hq_showing.proofs.show.show_engine.Goals as goal

pub returns-in-Err : goal.returns-in-Err
returns-in-Err g c = job_missing _ g.R.Read.remaining c.args.reader.now c.take_job.new.reader ShowReport _ _ c.in-Err.status c.in-Err.ensures.refused

pub returns-in-Ok : goal.returns-in-Ok
returns-in-Ok g c =
    job_found _ g.R.Read.remaining c.args.reader.now c.take_job.new.reader c.in-Ok.job ShowReport _ _ _ c.show_found-status.result c.in-Ok.ensures.found (ap g.W.Write.contents c.in-Ok.ensures.unwritten)
    (show_text c.in-Ok.job, Done, shows, c.show_found-status.ensures)

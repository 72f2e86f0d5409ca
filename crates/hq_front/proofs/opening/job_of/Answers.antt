use Rattle.std.proofs.Common.{ap}
use Rattle.std.proofs.lemmas.Result.{IfErr-weaker, err_from_is_err_and}
use Rattle.hq_status.specs.Reports.{NoJob, Reported}
use Rattle.hq_front.specs.Files.{FileReport}
use Rattle.hq_front.proofs.Files.{file_reported, unopened}
use Rattle.hq_front.proofs.opening.job_of.Goals as goal

pub returns-in_err-input-clause-refused : goal.returns-in_err-input-clause-refused
returns-in_err-input-clause-refused g c =
    let p = err_from_is_err_and c.from_residual.result c.from_residual.ensures.1 in
    rw (p.1, p.2) (unopened NoJob _ _ _ c.in_err-input.ensures.unopened)

pub returns-clause-refused : goal.returns-clause-refused
returns-clause-refused g c =
    IfErr-weaker c.take_job.result _ (Reported (FileReport NoJob) (g.W.Write.contents c.args.writer.now) (g.W.Write.contents c.take_job.new.writer))
    (λ status said. file_reported _ _ _ _ NoJob NoJob (λ text out answered no. no) _ _ _ status (ap g.W.Write.contents c.in_ok-input.ensures.unwritten) said) c.take_job.ensures.refused

use Rattle.std.proofs.Common.{refl}
use Rattle.hq_job.specs.Plan.{plan}
use Rattle.hq_judging.proofs.Audits.{no_reported}
use Rattle.hq_run_engine.proofs.Runs.{not_ordered_reported}
use Rattle.hq_run_engine.proofs.run.run_engine.Goals as goal

pub returns-in-Err : goal.returns-in-Err
returns-in-Err g c =
    not_ordered_reported c.args.job _ _ _ _ c.say_no_certificate.result refl
    (no_reported c.stuck_exactly.ensures (plan c.args.job) c.valid.ensures.valid c.in-Err.no _ _ c.say_no_certificate.result c.in-Err.ensures.refused c.say_no_certificate.ensures)

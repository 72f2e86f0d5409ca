use Rattle.std.proofs.Common.{subst, IfErr}
use Rattle.hq_job.specs.Plan.{plan}
use Rattle.hq_audit.specs.Refused.{IsRefused}
use Rattle.hq_judging.proofs.Audits.{no_certificate, no_reported}
use Rattle.hq_judging.proofs.audit.say_found.Goals as goal

pub returns-in-Err : goal.returns-in-Err
returns-in-Err g c =
    no_certificate (plan c.args.job.now) _ _ c.say_no_certificate.result (no_reported c.stuck_exactly.ensures (plan c.args.job.now) c.valid.ensures.valid c.in-Err.no _ _ c.say_no_certificate.result (subst (λ r. IfErr r (λ no. IsRefused (plan c.args.job.now) no)) c.in-Err.is c.requires.refused) c.say_no_certificate.ensures)

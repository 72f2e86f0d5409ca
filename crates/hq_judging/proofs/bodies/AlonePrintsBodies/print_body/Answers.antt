use Rattle.std.proofs.lemmas.Result.{on_ok_weaker}
use Rattle.std.proofs.Common.{subst}
use Rattle.hq_job.specs.Plan.{plan}
use Rattle.hq_judging.specs.Giving.{IsWholeText}
use Rattle.hq_judging.specs.Places.{IsTextBetween, end_place}
use Rattle.hq_judging.proofs.Audited.{such_as}
use Rattle.hq_judging.proofs.Places.{whole_between}
use Rattle.hq_judging.proofs.bodies.AlonePrintsBodies.print_body.Goals as goal

pub returns-clause-prints : goal.returns-clause-prints
returns-clause-prints g c = on_ok_weaker c.print_between.result (λ h.
    let job = plan c.args.job.now in
    let a = c.args.audited.now in
    such_as (IsTextBetween job a c.start-start.result c.end-end.result) (IsWholeText job a)
    (λ t k. whole_between job a t (subst (λ p. IsTextBetween job a p (end_place a) t) c.start-start.ensures (subst (λ q. IsTextBetween job a c.start-start.result q t) c.end-end.ensures k))) h) c.print_between.ensures.prints

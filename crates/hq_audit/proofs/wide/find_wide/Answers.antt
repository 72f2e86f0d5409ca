use Rattle.std.proofs.Common.{◌≡◌, subst}
use Rattle.hq_job.specs.Plan.{plan}
use Rattle.hq_audit.specs.declared.fault.AuditNo.TheVariants.{Memory}
use Rattle.hq_audit.specs.Refused.{IsRefused, AllRefused, AllShown, no_of_order}
use Rattle.hq_audit.proofs.Certifying.{ordered_is_not_refused, order_refused, all_refused, err_of, shown_is_ordered}
use Rattle.hq_audit.proofs.wide.find_wide.Goals as goal

pub returns-in_err-order-clause-ordered : goal.returns-in_err-order-clause-ordered
returns-in_err-order-clause-ordered g c = λ o.
    let job = plan c.args.job.now in
    let e = c.in_err-order.field-0.0 in
    err_of (λ no. no ≡ Memory) c.from_residual.result (no_of_order e) c.from_residual.ensures.1 (ordered_is_not_refused job (no_of_order e) o (order_refused job e c.in_err-order.ensures.stuck))

pub returns-in_err-audited-clause-refused : goal.returns-in_err-audited-clause-refused
returns-in_err-audited-clause-refused g c =
    let job = plan c.args.job.now in
    let answer = c.in_err-audited.field-0.0 in
    err_of (IsRefused job) c.from_residual-in_err-audited.result answer c.from_residual-in_err-audited.ensures.1
    (all_refused job c.in_ok-order.order.items answer c.in_ok-order.ensures.ok (subst (λ j. AllRefused j answer) c.in_ok-before.ensures.plan c.in_err-audited.ensures.refused))

pub returns-in_err-audited-clause-ordered : goal.returns-in_err-audited-clause-ordered
returns-in_err-audited-clause-ordered g c = λ o.
    let job = plan c.args.job.now in
    let answer = c.in_err-audited.field-0.0 in
    err_of (λ other. other ≡ Memory) c.from_residual-in_err-audited.result answer c.from_residual-in_err-audited.ensures.1
    (ordered_is_not_refused job answer o (all_refused job c.in_ok-order.order.items answer c.in_ok-order.ensures.ok (subst (λ j. AllRefused j answer) c.in_ok-before.ensures.plan c.in_err-audited.ensures.refused)))

pub returns-clause-exact : goal.returns-clause-exact
returns-clause-exact g c = λ t.
    let job = plan c.args.job.now in
    shown_is_ordered job c.in_ok-order.order.items c.in_ok-order.ensures.ok (subst AllShown c.in_ok-before.ensures.plan c.in_ok-audited.ensures.shown)

use Rattle.std.proofs.Common.{subst}
use Rattle.hq_job.specs.Plan.{plan}
use Rattle.hq_audit.specs.Refused.{AllShown, IsRefused, IsFirstUnshown, no_of_pair}
use Rattle.hq_audit.proofs.Certifying.{err_of, shown_is_ordered}
use Rattle.hq_change.proofs.changing.begun.Goals as goal

pub returns-clause-ordered : goal.returns-clause-ordered
returns-clause-ordered c =
    let job = plan c.args.job.now in
    shown_is_ordered job c.in_ok-order.order.items c.in_ok-order.ensures.ok (subst AllShown c.in_ok-before.ensures.plan c.in_ok-all_shown.ensures.shown)

pub returns-in_err-all_shown-clause-refused : goal.returns-in_err-all_shown-clause-refused
returns-in_err-all_shown-clause-refused c =
    let job = plan c.args.job.now in
    let u = c.in_err-all_shown.field-0.0 in
    err_of (IsRefused job) c.from_residual-in_err-all_shown.result (no_of_pair u) c.from_residual-in_err-all_shown.ensures.1
    ((c.in_ok-order.order.items, c.in_ok-order.ensures.ok), subst (λ j. IsFirstUnshown j u) c.in_ok-before.ensures.plan c.in_err-all_shown.ensures.unshown)

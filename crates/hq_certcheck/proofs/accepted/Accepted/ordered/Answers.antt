use Rattle.std.proofs.Common.{subst}
use Rattle.hq_job.specs.Plan.{plan}
use Rattle.hq_model.specs.Order.{Extends}
use Rattle.hq_certcheck.specs.View.{AcceptedJob}
use Rattle.hq_certcheck.proofs.accepted.Accepted.ordered.Goals as goal

pub returns-clause-extends : goal.returns-clause-extends
returns-clause-extends c =
    let P : AcceptedJob → Type 0 = λ v. Extends (plan v.job) v.order in
    subst P c.self.view_is (c.order_lists_extend.ensures (plan c.self.inside.job) c.self.inside.order.items c.self.invariant.list)

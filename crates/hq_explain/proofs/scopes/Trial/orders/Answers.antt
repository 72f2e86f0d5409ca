use Rattle.hq_job.specs.Plan.{plan}
use Rattle.hq_explain.specs.declared.change.Change.TheVariants as change
use Rattle.hq_explain.proofs.Trying.{orders_by}
use Rattle.hq_explain.proofs.scopes.Trial.orders.Goals as goal

pub returns-then-is_raise-clause-orders : goal.returns-then-is_raise-clause-orders
returns-then-is_raise-clause-orders c =
    orders_by (plan c.args.job.now) c.args.a c.args.b c.args.p (change.Scope c.args.fence c.args.scope) c.is_ordered.result.0 c.head-head.result c.changed.result c.requires.p_is c.head-head.ensures
    c.changed.ensures (c.is_raise.ensures.0 c.if-is_raise.true) c.is_ordered.ensures.ordered

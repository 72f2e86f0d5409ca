use Rattle.hq_job.specs.Plan.{plan}
use Rattle.hq_packet.specs.declared.packet.Scope.{Scope}
use Rattle.hq_packet.specs.declared.packet.Scope.TheVariants as scope
use Rattle.hq_explain.specs.Changes.{Orders}
use Rattle.hq_explain.specs.declared.change.Change.TheVariants as change
use Rattle.hq_explain.proofs.Trying.{least_agent, least_none, least_system, none_orders, not_when}
use Rattle.hq_explain.proofs.scopes.Trial.least.Goals as goal

pub returns-then-by_agent-clause-least : goal.returns-then-by_agent-clause-least
returns-then-by_agent-clause-least c =
    let Holds : Scope → Type 0 = λ s. Orders (plan c.args.job.now) c.args.a c.args.b c.args.p (change.Scope c.args.fence s) in
    least_agent Holds (none_orders (plan c.args.job.now) c.args.a c.args.b c.args.p c.args.fence) (c.orders-by_agent.ensures.orders.0 c.if-by_agent.true)

pub returns-then-by_system-clause-least : goal.returns-then-by_system-clause-least
returns-then-by_system-clause-least c =
    let Holds : Scope → Type 0 = λ s. Orders (plan c.args.job.now) c.args.a c.args.b c.args.p (change.Scope c.args.fence s) in
    least_system Holds (none_orders (plan c.args.job.now) c.args.a c.args.b c.args.p c.args.fence)
    (not_when c.orders-by_agent.result.0 (Holds scope.Agent) c.orders-by_agent.ensures.orders c.if-by_agent.false) (c.orders-by_system.ensures.orders.0 c.if-by_system.true)

pub returns-else-by_system-clause-least : goal.returns-else-by_system-clause-least
returns-else-by_system-clause-least c =
    let Holds : Scope → Type 0 = λ s. Orders (plan c.args.job.now) c.args.a c.args.b c.args.p (change.Scope c.args.fence s) in
    least_none Holds (none_orders (plan c.args.job.now) c.args.a c.args.b c.args.p c.args.fence)
    (not_when c.orders-by_agent.result.0 (Holds scope.Agent) c.orders-by_agent.ensures.orders c.if-by_agent.false)
    (not_when c.orders-by_system.result.0 (Holds scope.System) c.orders-by_system.ensures.orders c.if-by_system.false)

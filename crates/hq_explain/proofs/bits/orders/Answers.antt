use Rattle.std.proofs.Common.{IsTrue, ◌↔◌, subst}
use Rattle.hq_audit.specs.Refused.{ShownOneWay}
use Rattle.hq_explain.proofs.bits.orders.Goals as goal

pub returns-clause-ordered : goal.returns-clause-ordered
returns-clause-ordered c = subst (λ j. IsTrue c.is_ordered.result ↔ ShownOneWay j c.args.a c.args.b) c.in_ok-before.ensures.plan c.is_ordered.ensures

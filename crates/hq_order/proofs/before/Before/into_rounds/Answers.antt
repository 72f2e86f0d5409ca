use Rattle.std.proofs.Common.{subst}
use Rattle.hq_order.specs.View.{AreOf}
use Rattle.hq_order.proofs.before.Before.into_rounds.Goals as goal

pub returns : goal.returns
returns c = subst (λ j. AreOf j c.self.inside.found) c.self.view_is c.self.invariant

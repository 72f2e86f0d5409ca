use Rattle.std.proofs.Common.{subst}
use Rattle.hq_graph.specs.Order.{IsFound}
use Rattle.hq_graph.proofs.drawing.graph.Goals as goal

pub returns-clause-found : goal.returns-clause-found
returns-clause-found g c = subst (λ j. IsFound j c.found_of-found.result) c.in_ok-before.ensures.plan c.found_of-found.ensures

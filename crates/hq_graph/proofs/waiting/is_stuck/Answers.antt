use Rattle.std.proofs.Common.{IsTrue, subst}
use Rattle.std.specs.Prelude.{◌↔◌}
use Rattle.hq_model.specs.Order.{Stuck}
use Rattle.hq_graph.proofs.waiting.is_stuck.Goals as goal

pub returns : goal.returns
returns c = subst (λ j. IsTrue c.has.result ↔ Stuck j c.args.p) c.job.ensures c.has.ensures

use Rattle.std.proofs.Common.{subst}
use Rattle.std.specs.Prelude.{MatchOption}
use Rattle.hq_graph.specs.Order.{Awaits}
use Rattle.hq_graph.specs.declared.wait.Wait.{Wait}
use Rattle.hq_graph.proofs.waiting.wait_of.Goals as goal

pub returns : goal.returns
returns c = subst (λ j. MatchOption c.wait_at.result ((by : Wait) → ¬ Awaits j c.args.p c.args.r by) (λ by. Awaits j c.args.p c.args.r by)) c.job.ensures c.wait_at.ensures

use Rattle.std.proofs.Common.{ℕ, ◌<◌}
use Rattle.hq_job.specs.Plan.{plan}
use Rattle.hq_graph.specs.Order.{Awaits}
use Rattle.hq_graph.specs.declared.wait.Wait.{Wait}
use Rattle.hq_explain.proofs.stuck.wait_of.Given as goal

abbrev pub invariant-loop-p : goal.invariant-loop-p
invariant-loop-p l = (q : ℕ) → q < l.p → (by : Wait) → ¬ Awaits (plan l.job) q l.r by

use Rattle.std.proofs.Common.{ℕ, ◌<◌}
use Rattle.hq_job.specs.Plan.{plan}
use Rattle.hq_model.specs.Order.{ByBit}
use Rattle.hq_order.proofs.rules.bit_between.Given as goal

abbrev pub invariant-loop-j : goal.invariant-loop-j
invariant-loop-j l = (i : ℕ) → i < l.j → ByBit (plan l.job) l.p l.r i → ⊥

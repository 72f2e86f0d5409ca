use Rattle.std.proofs.Common.{ℕ, ◌<◌}
use Rattle.hq_job.specs.Plan.{plan}
use Rattle.hq_order.specs.Sweeping.{HasAsked}
use Rattle.hq_order.proofs.sweeping.have_asked.Given as goal

abbrev pub invariant-loop-r : goal.invariant-loop-r
invariant-loop-r l = (r : ℕ) → r < l.r → HasAsked (plan l.job) l.rows r

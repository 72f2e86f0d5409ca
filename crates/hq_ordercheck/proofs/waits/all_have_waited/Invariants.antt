use Rattle.std.proofs.Common.{ℕ, ◌<◌}
use Rattle.hq_job.specs.Plan.{plan}
use Rattle.hq_ordercheck.specs.Placed.{HasWaited}
use Rattle.hq_ordercheck.proofs.waits.all_have_waited.Given as goal

abbrev pub invariant-loop-r : goal.invariant-loop-r
invariant-loop-r l = (r : ℕ) → r < l.r → HasWaited (plan l.job) l.places r

use Rattle.std.proofs.Common.{ℕ, ◌<◌, ◌+◌, ◌-◌, length}
use Rattle.hq_job.specs.Plan.{plan}
use Rattle.hq_schedule.specs.Placing.{MayFollow}
use Rattle.hq_schedule.proofs.scheduling.next.Given as goal

abbrev pub invariant-loop-number : goal.invariant-loop-number
invariant-loop-number l = (r : ℕ) → r < l.number → MayFollow (plan l.job) l.come r → ⊥

abbrev pub decreases-loop-number : goal.decreases-loop-number
decreases-loop-number l = length l.job.packets + 1 - l.number

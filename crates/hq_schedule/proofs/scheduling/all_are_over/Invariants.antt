use Rattle.std.proofs.Common.{ℕ, ◌<◌}
use Rattle.hq_job.specs.Plan.{plan}
use Rattle.hq_model.specs.Job.{Dependency}
use Rattle.hq_schedule.specs.Placing.{IsOver}
use Rattle.hq_schedule.proofs.scheduling.all_are_over.Given as goal

abbrev pub invariant-loop-slot : goal.invariant-loop-slot
invariant-loop-slot l = (slot s : ℕ) → slot < l.slot-index → Dependency (plan l.job) l.number slot s → IsOver (plan l.job) l.come s

use Rattle.std.proofs.Common.{ℕ, ◌<◌}
use Rattle.hq_job.specs.Plan.{plan}
use Rattle.hq_model.specs.Job.{Dependency}
use Rattle.hq_ordercheck.specs.Placed.{IsOverBefore}
use Rattle.hq_ordercheck.proofs.waits.all_are_over.Given as goal

abbrev pub invariant-loop-slot : goal.invariant-loop-slot
invariant-loop-slot l = (slot s : ℕ) → slot < l.slot-index → Dependency (plan l.job) l.r slot s → IsOverBefore (plan l.job) l.places s l.r

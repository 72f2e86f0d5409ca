use Rattle.std.proofs.Common.{ℕ}
use Rattle.hq_job.specs.Plan.{plan}
use Rattle.hq_model.specs.Job.{Dependency, Decrements}
use Rattle.hq_rows.proofs.Filling.{Gathered}
use Rattle.hq_waits.proofs.depending.unite_dependencies.Given as goal

abbrev pub invariant-loop-slot : goal.invariant-loop-slot
invariant-loop-slot l = Gathered (λ slot e. (s : ℕ) × Dependency (plan l.job) l.number slot s × Decrements (plan l.job) e s) l.fn.row l.slot-index l.row

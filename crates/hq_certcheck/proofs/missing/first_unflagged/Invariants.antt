use Rattle.std.proofs.Common.{ℕ, ◌<◌}
use Rattle.hq_job.specs.Plan.{plan}
use Rattle.hq_certcheck.specs.Covering.{RowFlagged}
use Rattle.hq_certcheck.proofs.missing.first_unflagged.Given as goal

abbrev pub invariant-loop-p : goal.invariant-loop-p
invariant-loop-p l = (q : ℕ) → q < l.p → RowFlagged (plan l.job) l.flags q

use Rattle.std.proofs.Common.{◌≡◌, ℕ, ◌+◌, ◌*◌}
use Rattle.hq_job.specs.Plan.{plan}
use Rattle.hq_model.specs.Job.{Decrements}
use Rattle.hq_rows.proofs.Filling.{Gathered}
use Rattle.hq_waits.proofs.signals.mark_completions.Given as goal

abbrev pub invariant-loop-number : goal.invariant-loop-number
invariant-loop-number l = Gathered (λ p e. (s : ℕ) × (e ≡ s * (l.words * 64) + p) × Decrements (plan l.job) p s) l.fn.rows l.number l.rows

use Rattle.std.proofs.Common.{◌≡◌, ◌<◌, ℕ}
use Rattle.hq_job.specs.Plan.{plan}
use Rattle.hq_model.specs.Job.{packet}
use Rattle.hq_model.specs.Job.Kind.{BarrierOr}
use Rattle.hq_order.proofs.rounds.has_no_either.Given as goal

abbrev pub invariant-loop-r : goal.invariant-loop-r
invariant-loop-r l = (r : ℕ) → r < l.r → (packet (plan l.job) r).kind ≡ BarrierOr → ⊥

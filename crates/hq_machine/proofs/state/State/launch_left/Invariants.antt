use Rattle.std.proofs.Common.{ℕ, ◌<◌}
use Rattle.hq_job.specs.Plan.{plan}
use Rattle.hq_model.specs.Machine.Event.{Launch}
use Rattle.hq_machine.specs.Enabled.{Enabled}
use Rattle.hq_machine.proofs.state.State.launch_left.Given as goal

abbrev pub invariant-loop-queue : goal.invariant-loop-queue
invariant-loop-queue l = (q : ℕ) → q < l.queue → Enabled (plan l.job) l.self (Launch q) → ⊥

use Rattle.std.proofs.Common.{ℕ, ◌<◌}
use Rattle.hq_job.specs.Plan.{plan}
use Rattle.hq_model.specs.Machine.Event.{Observe}
use Rattle.hq_machine.specs.Enabled.{Enabled}
use Rattle.hq_machine.proofs.state.State.observe_left.Given as goal

abbrev pub invariant-loop-slot : goal.invariant-loop-slot
invariant-loop-slot l = (slot : ℕ) → slot < l.slot → Enabled (plan l.job) l.self (Observe l.packet slot) → ⊥

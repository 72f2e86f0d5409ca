use Rattle.std.proofs.Common.{ℕ, ◌<◌}
use Rattle.hq_job.specs.Plan.{plan}
use Rattle.hq_model.specs.Machine.Event.{Read}
use Rattle.hq_machine.specs.Enabled.{Enabled}
use Rattle.hq_machine.proofs.state.State.read_left.Given as goal

abbrev pub invariant-loop-entry : goal.invariant-loop-entry
invariant-loop-entry l = (i : ℕ) → i < l.entry → Enabled (plan l.job) l.self (Read l.packet i) → ⊥

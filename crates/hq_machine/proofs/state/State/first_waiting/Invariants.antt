use Rattle.std.proofs.Common.{◌≢◌, ℕ, ◌<◌, get_or}
use Rattle.hq_job.specs.Plan.{plan}
use Rattle.hq_model.specs.Machine as machine
use Rattle.hq_machine.specs.View.{state_of}
use Rattle.hq_machine.proofs.state.State.first_waiting.Given as goal

abbrev pub invariant-loop-number : goal.invariant-loop-number
invariant-loop-number l = (k : ℕ) → k < l.number-index → (state_of (plan l.job) l.self).phase (get_or l.job.submissions k 0) ≢ machine.Phase.Waiting

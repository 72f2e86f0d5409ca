use Rattle.std.proofs.Common.{◌≡◌, ℕ, ◌<◌, ◌≤◌}
use Rattle.hq_job.specs.Plan.{plan}
use Rattle.hq_model.specs.Job.{IsBarrier}
use Rattle.hq_model.specs.Machine as machine
use Rattle.hq_machine.specs.View.{state_of}
use Rattle.hq_machine.proofs.state.State.barriers_complete.Given as goal

abbrev pub invariant-loop-number : goal.invariant-loop-number
invariant-loop-number l = (e : ℕ) → l.fn.numbers.start ≤ e → e < l.number → IsBarrier (plan l.job) e → (state_of (plan l.job) l.self).phase e ≡ machine.Phase.Complete

use Rattle.std.proofs.Common.{◌≡◌, ℕ, ◌<◌, ◌≤◌, true}
use Rattle.hq_job.specs.Plan.{plan}
use Rattle.hq_model.specs.Machine.{is_launched}
use Rattle.hq_machine.specs.View.{state_of}
use Rattle.hq_machine.proofs.state.State.first_unlaunched.Given as goal

abbrev pub invariant-loop-number : goal.invariant-loop-number
invariant-loop-number l = (e : ℕ) → l.initial.number ≤ e → e < l.number → is_launched ((state_of (plan l.job) l.self).phase e) ≡ true

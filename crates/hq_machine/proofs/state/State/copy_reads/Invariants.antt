use Rattle.std.proofs.Common.{◌≡◌, ◌<◌, ℕ, unwrap_or, get_or}
use Rattle.hq_model.specs.Job.{Job}
use Rattle.hq_machine.specs.View.{state_of}
use Rattle.hq_machine.proofs.state.State.copy_reads.Given as goal

abbrev pub invariant-loop-entry : goal.invariant-loop-entry
invariant-loop-entry l = (job : Job) (k : ℕ) → k < l.entry → get_or l.bytes k 0 ≡ unwrap_or ((state_of job l.self).read l.packet k) 0

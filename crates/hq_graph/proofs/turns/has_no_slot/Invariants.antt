use Rattle.std.proofs.Common.{ℕ, ◌<◌, IsTrue}
use Rattle.hq_job.specs.Plan.{plan}
use Rattle.hq_model.specs.Job.{Frees}
use Rattle.hq_bits.specs.Bits.{has}
use Rattle.hq_graph.proofs.turns.has_no_slot.Given as goal

abbrev pub invariant-loop-q : goal.invariant-loop-q
invariant-loop-q l = (i : ℕ) → i < l.q → IsTrue (has l.set i) → Frees (plan l.job) i l.r → ⊥

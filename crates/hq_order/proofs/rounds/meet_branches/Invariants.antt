use Rattle.std.proofs.Common.{◌≡◌, ℕ, ◌<◌, ◌↔◌, IsTrue, slice_get, Some}
use Rattle.hq_job.specs.Plan.{plan}
use Rattle.hq_bits.specs.Bits.{has}
use Rattle.hq_order.specs.Rounds.{Reaches}
use Rattle.hq_rows.specs.Matrix.{Marks}
use Rattle.hq_order.proofs.rounds.meet_branches.Given as goal

abbrev pub invariant-loop-slot : goal.invariant-loop-slot
invariant-loop-slot l = (p : ℕ) → IsTrue (has l.shared p) ↔ (IsTrue (has l.fn.shared p) × ((slot s : ℕ) → slot < l.slot-index → slice_get l.slots slot ≡ Some (Some s) → Reaches (plan l.job) (Marks l.known.rows.now) p s))

use Rattle.std.proofs.Common.{◌≡◌, ℕ, ◌<◌, IsTrue, Some, slice_get}
use Rattle.hq_job.specs.Plan.{plan}
use Rattle.hq_bits.specs.Bits.{has}
use Rattle.hq_rows.specs.Matrix.{Marks}
use Rattle.hq_order.specs.Rounds.{Reaches}
use Rattle.hq_order.proofs.sweeping.unite_branches.Given as goal

abbrev pub invariant-loop-slot : goal.invariant-loop-slot
invariant-loop-slot l = record {
  kept : (p : ℕ) → IsTrue (has l.fn.row p) → IsTrue (has l.row p);
  taken : (p slot s : ℕ) → slot < l.slot-index → slice_get l.slot-items slot ≡ Some (Some s) → Reaches (plan l.job) (Marks l.rows) p s → IsTrue (has l.row p);
}

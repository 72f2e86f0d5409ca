use Rattle.std.proofs.Common.{◌-◌, ◌≡◌, ℕ, IsTrue, length}
use Rattle.hq_bits.specs.Bits.{has}
use Rattle.hq_rows.specs.Matrix.{Marks}
use Rattle.hq_change.proofs.foresight.has_apart.Given as goal

abbrev pub invariant-each : goal.invariant-each
invariant-each l = record {
  len : length l.left.items ≡ length l.conflicts;
  left : (b : ℕ) → IsTrue (has l.left.items b) → IsTrue (has l.conflicts b) × ¬ Marks l.rows b l.a;
}

abbrev pub decreases-each : goal.decreases-each
decreases-each l = 1024 - l.from

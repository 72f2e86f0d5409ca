use Rattle.std.proofs.Common.{◌≡◌, ℕ, IsTrue, length}
use Rattle.hq_bits.specs.Bits.{has}
use Rattle.hq_parts.proofs.Parting.{TakesGone}
use Rattle.hq_parts.proofs.parts.take_rows.Given as goal

abbrev pub invariant-each : goal.invariant-each
invariant-each l = record {
  len : length l.row ≡ 16;
  kept : (p : ℕ) → IsTrue (has l.fn.row p) → IsTrue (has l.row p);
  taken : TakesGone l.table l.parts l.rest l.row;
}

abbrev pub decreases-each : goal.decreases-each
decreases-each l = l.rest

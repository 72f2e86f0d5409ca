use Rattle.std.proofs.Common.{◌≡◌, ℕ, ◌<◌, ◌+◌, length}
use Rattle.hq_rows.specs.Matrix.{row, matrix, Turned}
use Rattle.hq_rows.proofs.columns.all_turned.Given as goal

abbrev pub invariant-loop-k : goal.invariant-loop-k
invariant-loop-k l = record {
  last : l.last + 1 ≡ length l.rounds;
  len : length l.tables.items ≡ l.k;
  each : (k : ℕ) → k < l.k → Turned (matrix l.rounds k) (row l.tables.items k);
}

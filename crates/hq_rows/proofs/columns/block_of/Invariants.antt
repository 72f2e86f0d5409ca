use Rattle.std.proofs.Common.{◌≡◌, ℕ, ◌+◌, ◌<◌, length, slice_index}
use Rattle.hq_rows.specs.Matrix.{row}
use Rattle.hq_rows.proofs.columns.block_of.Given as goal

abbrev pub invariant-loop-i : goal.invariant-loop-i
invariant-loop-i l = record {
  len : length l.block ≡ 64;
  there : (k : ℕ) → k < l.i → slice_index l.block k ≡ slice_index (row l.rows (l.first + k)) l.place;
}

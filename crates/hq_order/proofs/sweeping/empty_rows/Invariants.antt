use Rattle.std.proofs.Common.{◌≡◌, ℕ, ◌<◌, length}
use Rattle.hq_rows.specs.Matrix.{row, words_for}
use Rattle.hq_order.proofs.sweeping.empty_rows.Given as goal

abbrev pub invariant-loop : goal.invariant-loop
invariant-loop l = record {
  count : l.count ≡ length l.job.packets;
  len : length l.rows.items ≡ l.counter;
  width : (r : ℕ) → r < l.counter → length (row l.rows.items r) ≡ words_for (length l.job.packets);
}

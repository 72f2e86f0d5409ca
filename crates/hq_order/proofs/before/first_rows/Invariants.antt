use Rattle.std.proofs.Common.{◌≡◌, ◌↔◌, ◌-◌, ℕ, ◌<◌, IsTrue, length}
use Rattle.hq_job.specs.Plan.{plan}
use Rattle.hq_bits.specs.Bits.{has}
use Rattle.hq_rows.specs.Matrix.{row, words_for, Marks}
use Rattle.hq_order.specs.Rounds.{Direct, Precedes}
use Rattle.hq_order.proofs.before.first_rows.Given as goal

abbrev pub invariant-loop-r : goal.invariant-loop-r
invariant-loop-r l = record {
  count : l.count ≡ length l.job.packets;
  words : length l.ahead.items ≡ words_for (length l.job.packets);
  ahead : (p : ℕ) → IsTrue (has l.ahead.items p) ↔ ((0 < l.r) × Precedes (plan l.job) p (l.r - 1));
  len : length l.rows.items ≡ l.r;
  width : (r : ℕ) → r < l.r → length (row l.rows.items r) ≡ words_for (length l.job.packets);
  exact : (p r : ℕ) → r < l.r → Marks l.rows.items p r ↔ Direct (plan l.job) p r;
}

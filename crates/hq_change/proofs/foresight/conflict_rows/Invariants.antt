use Rattle.std.proofs.Common.{◌≡◌, ◌<◌, ℕ, length}
use Rattle.hq_rows.specs.Matrix.{Marks, row, words_for}
use Rattle.hq_fence.specs.Judgement.{HaveConflict}
use Rattle.hq_change.proofs.foresight.conflict_rows.Given as goal

abbrev pub invariant-loop-a : goal.invariant-loop-a
invariant-loop-a l = record {
  len : length l.rows.items ≡ l.a;
  width : (r : ℕ) → r < l.a → length (row l.rows.items r) ≡ words_for (length l.before.packets);
  conflict : (b a : ℕ) → Marks l.rows.items b a → (b < a) × HaveConflict l.before b a;
  all : (b a : ℕ) → a < l.a → b < a → HaveConflict l.before b a → Marks l.rows.items b a;
}

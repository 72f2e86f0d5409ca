use Rattle.std.proofs.Common.{◌-◌, ◌≡◌, ◌≤◌, ◌<◌, ℕ, IsTrue, length}
use Rattle.hq_bits.specs.Bits.{has}
use Rattle.hq_rows.specs.Matrix.{words_for}
use Rattle.hq_fence.specs.Judgement.{HaveConflict}
use Rattle.hq_change.proofs.foresight.conflict_row.Given as goal

abbrev pub invariant-others : goal.invariant-others
invariant-others l = record {
  below : l.b ≤ length l.before.packets;
  len : length l.row.items ≡ words_for (length l.before.packets);
  conflict : (b : ℕ) → IsTrue (has l.row.items b) → (b < l.a) × HaveConflict l.before b l.a;
  all : (x : ℕ) → x < l.b → x < l.a → HaveConflict l.before x l.a → IsTrue (has l.row.items x);
}

abbrev pub decreases-others : goal.decreases-others
decreases-others l = l.a - l.b

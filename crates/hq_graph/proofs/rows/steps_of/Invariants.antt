use Rattle.std.proofs.Common.{◌≡◌, ◌↔◌, ◌≤◌, ◌<◌, ℕ, length}
use Rattle.hq_bits.specs.declared.TheConstants.{WORDS}
use Rattle.hq_rows.specs.Matrix.{Marks, row}
use Rattle.hq_graph.specs.Order.{IsStep}
use Rattle.hq_graph.proofs.rows.steps_of.Given as goal

abbrev pub invariant-loop-r : goal.invariant-loop-r
invariant-loop-r l = record {
  height : length l.rows.items ≡ l.r;
  width : (r : ℕ) → r < l.r → length (row l.rows.items r) ≤ WORDS;
  exact : (p r : ℕ) → r < l.r → Marks l.rows.items p r ↔ IsStep l.before p r;
}

use Rattle.std.proofs.Common.{◌≡◌, ℕ, ◌<◌}
use Rattle.hq_rows.specs.Matrix.{row}
use Rattle.hq_rows.proofs.tables.are_same.Given as goal

abbrev pub invariant-loop-r : goal.invariant-loop-r
invariant-loop-r l = (r : ℕ) → r < l.r → row l.left r ≡ row l.right r

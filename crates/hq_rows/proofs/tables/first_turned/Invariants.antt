use Rattle.std.proofs.Common.{ℕ, ◌<◌}
use Rattle.hq_rows.specs.Matrix.{Marks, matrix}
use Rattle.hq_rows.proofs.tables.first_turned.Given as goal

abbrev pub invariant-loop-k : goal.invariant-loop-k
invariant-loop-k l = (j : ℕ) → j < l.k → Marks (matrix l.rounds j) l.p l.r → ⊥

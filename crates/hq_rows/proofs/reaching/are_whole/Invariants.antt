use Rattle.std.proofs.Common.{◌+◌, ◌<◌, ◌≤◌, ℕ, length}
use Rattle.hq_rows.specs.Matrix.{Marks}
use Rattle.hq_rows.specs.Uniting.{Through}
use Rattle.hq_rows.proofs.reaching.are_whole.Given as goal

-- the last rows are whole
abbrev pub invariant-loop-behind : goal.invariant-loop-behind
invariant-loop-behind l = (p r : ℕ) → r < length l.known.rows.now → length l.known.rows.now ≤ r + l.behind → Through l.known.rows.now p r → Marks l.known.rows.now p r

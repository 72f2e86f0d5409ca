use Rattle.std.proofs.Common.{ℕ, ◌<◌}
use Rattle.hq_rows.specs.Turning.{IsPartTurned}
use Rattle.hq_rows.proofs.columns.turn_rows.Given as goal

abbrev pub invariant-loop-place : goal.invariant-loop-place
invariant-loop-place l = (place part : ℕ) → place < l.place → part < 16 → IsPartTurned l.rows place part l.table

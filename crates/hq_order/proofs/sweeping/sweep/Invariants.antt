use Rattle.std.proofs.Common.{length}
use Rattle.hq_rows.specs.Matrix.{IsSquare}
use Rattle.hq_order.proofs.sweeping.sweep.Given as goal

abbrev pub invariant-loop : goal.invariant-loop
invariant-loop l = IsSquare (length l.job.packets) l.rows.items

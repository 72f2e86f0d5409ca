use Rattle.std.proofs.Common.{length}
use Rattle.hq_rows.specs.Matrix.{IsSquare}
use Rattle.hq_order.proofs.sweeping.renew.Given as goal

abbrev pub invariant-loop-packet : goal.invariant-loop-packet
invariant-loop-packet l = IsSquare (length l.job.packets) l.rows.items

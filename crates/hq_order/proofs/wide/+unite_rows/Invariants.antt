use Rattle.std.proofs.Common.{length}
use Rattle.hq_order.proofs.wide.+unite_rows.Given as goal

abbrev pub decreases-unite_rows : goal.decreases-unite_rows
decreases-unite_rows l = length l.rows.now

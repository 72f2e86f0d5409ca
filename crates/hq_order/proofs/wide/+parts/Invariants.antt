use Rattle.std.proofs.Common.{◌+◌, ◌*◌, length}
use Rattle.hq_order.proofs.wide.+parts.Given as goal

abbrev pub decreases-unite_parts : goal.decreases-unite_parts
decreases-unite_parts g l = 2 * length l.rows.now

abbrev pub decreases-here : goal.decreases-here
decreases-here g l = 2 * length l.others.now + 1

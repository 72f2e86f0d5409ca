use Rattle.std.proofs.Common.{◌+◌, ◌*◌, length}
use Rattle.hq_order.proofs.wide.+turning.Given as goal

abbrev pub decreases-turn_each : goal.decreases-turn_each
decreases-turn_each g l = 2 * length l.tables.now

abbrev pub decreases-here : goal.decreases-here
decreases-here g l = 2 * length l.others.now + 1

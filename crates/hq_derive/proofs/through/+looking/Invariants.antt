use Rattle.std.proofs.Common.{◌+◌, ◌-◌, ◌*◌, length}
use Rattle.hq_derive.proofs.through.+looking.Given as goal

abbrev pub decreases-are_through_from : goal.decreases-are_through_from
decreases-are_through_from g l = 2 * (length l.shorts.now - l.from)

abbrev pub decreases-here : goal.decreases-here
decreases-here g l = 2 * (length l.shorts.now - l.to) + 1

use Rattle.std.proofs.Common.{◌+◌, ◌*◌, length}
use Rattle.hq_derive.proofs.making.+parts.Given as goal

abbrev pub decreases-make_parts : goal.decreases-make_parts
decreases-make_parts g l = 2 * length l.starts.now

abbrev pub decreases-here : goal.decreases-here
decreases-here g l = 2 * length l.others.now + 1

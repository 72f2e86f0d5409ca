use Rattle.std.proofs.Common.{◌+◌, ◌*◌, length}
use Rattle.hq_judging.proofs.chunks.+chunks.Given as goal

abbrev pub decreases-look_meanwhile : goal.decreases-look_meanwhile
decreases-look_meanwhile g l = 2 * length l.chunks.now

abbrev pub decreases-here : goal.decreases-here
decreases-here g l = 2 * length l.others.now + 1

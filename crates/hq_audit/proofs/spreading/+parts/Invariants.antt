use Rattle.std.proofs.Common.{◌+◌, ◌*◌, length}
use Rattle.hq_audit.proofs.spreading.+parts.Given as goal

abbrev pub decreases-judge_parts : goal.decreases-judge_parts
decreases-judge_parts g l = 2 * length l.rooms.now

abbrev pub decreases-here : goal.decreases-here
decreases-here g l = 2 * length l.others.now + 1

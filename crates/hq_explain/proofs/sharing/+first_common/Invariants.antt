use Rattle.std.proofs.Common.{length}
use Rattle.hq_explain.proofs.sharing.+first_common.Given as goal

abbrev pub decreases-first_common : goal.decreases-first_common
decreases-first_common l = length l.ranges.now

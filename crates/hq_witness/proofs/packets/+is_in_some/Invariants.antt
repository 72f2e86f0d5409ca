use Rattle.std.proofs.Common.{length}
use Rattle.hq_witness.proofs.packets.+is_in_some.Given as goal

abbrev pub decreases-is_in_some : goal.decreases-is_in_some
decreases-is_in_some l = length l.ranges.now

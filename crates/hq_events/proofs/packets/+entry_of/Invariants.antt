use Rattle.std.proofs.Common.{length}
use Rattle.hq_events.proofs.packets.+entry_of.Given as goal

abbrev pub decreases-entry_of : goal.decreases-entry_of
decreases-entry_of l = length l.ranges.now

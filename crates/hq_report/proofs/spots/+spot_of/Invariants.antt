use Rattle.std.proofs.Common.{length}
use Rattle.hq_report.proofs.spots.+spot_of.Given as goal

abbrev pub decreases-spot_of : goal.decreases-spot_of
decreases-spot_of l = length l.buffers.now

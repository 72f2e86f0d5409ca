use Rattle.std.proofs.Common.{length}
use Rattle.hq_kernels.proofs.kits.+bodies_fit.Given as goal

abbrev pub decreases-bodies_fit : goal.decreases-bodies_fit
decreases-bodies_fit g l = length l.packets.now

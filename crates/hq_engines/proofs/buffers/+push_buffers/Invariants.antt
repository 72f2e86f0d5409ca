use Rattle.std.proofs.Common.{length}
use Rattle.hq_engines.proofs.buffers.+push_buffers.Given as goal

abbrev pub decreases-push_buffers : goal.decreases-push_buffers
decreases-push_buffers l = length l.buffers.now

use Rattle.hq_signals.proofs.Places.{AgreeBelow}
use Rattle.hq_tables.specs.Blocks.{blocks_of}
use Rattle.hq_job.proofs.same.same_blocks.Given as goal

abbrev pub invariant-loop-i : goal.invariant-loop-i
invariant-loop-i l = AgreeBelow l.i (blocks_of l.first) (blocks_of l.second)

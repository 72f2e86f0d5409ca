use Rattle.hq_signals.proofs.Places.{AgreeBelow}
use Rattle.hq_job.proofs.same.same_packets.Given as goal

abbrev pub invariant-loop-i : goal.invariant-loop-i
invariant-loop-i l = AgreeBelow l.i l.first l.second

use Rattle.hq_signals.proofs.Places.{AgreeBelow}
use Rattle.hq_signals.proofs.table.SignalTable.same.Given as goal

abbrev pub invariant-loop-index : goal.invariant-loop-index
invariant-loop-index l = AgreeBelow l.index l.self l.other

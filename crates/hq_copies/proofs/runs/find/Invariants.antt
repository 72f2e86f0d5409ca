use Rattle.hq_copies.proofs.Finds.{RunsPassed}
use Rattle.hq_copies.proofs.runs.find.Given as goal

abbrev pub invariant-loop-run : goal.invariant-loop-run
invariant-loop-run l = RunsPassed l.edges l.number l.run l.count

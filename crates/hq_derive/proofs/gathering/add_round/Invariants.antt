use Rattle.hq_derive.specs.Gathered.{Goes}
use Rattle.hq_derive.proofs.gathering.add_round.Given as goal

abbrev pub invariant-loop-p : goal.invariant-loop-p
invariant-loop-p l = Goes l.before l.fn.lines l.lines

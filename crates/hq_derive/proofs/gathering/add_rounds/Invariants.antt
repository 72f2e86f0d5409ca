use Rattle.hq_derive.specs.Gathered.{Goes}
use Rattle.hq_derive.proofs.gathering.add_rounds.Given as goal

abbrev pub invariant-loop-round : goal.invariant-loop-round
invariant-loop-round l = Goes l.before l.fn.lines l.lines

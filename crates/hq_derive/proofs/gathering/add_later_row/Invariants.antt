use Rattle.hq_derive.specs.Gathered.{Goes}
use Rattle.hq_derive.proofs.gathering.add_later_row.Given as goal

abbrev pub invariant-loop-place : goal.invariant-loop-place
invariant-loop-place l = Goes l.before l.fn.lines l.lines

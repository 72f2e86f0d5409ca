use Rattle.hq_derive.specs.Gathered.{Goes}
use Rattle.hq_derive.proofs.gathering.add_later_word.Given as goal

abbrev pub invariant-each : goal.invariant-each
invariant-each l = Goes l.before l.fn.lines l.lines

abbrev pub decreases-each : goal.decreases-each
decreases-each l = l.rest

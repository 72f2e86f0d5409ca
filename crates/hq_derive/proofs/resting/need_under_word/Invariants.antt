use Rattle.hq_derive.specs.Needed.{Widens}
use Rattle.hq_derive.proofs.resting.need_under_word.Given as goal

abbrev pub invariant-each : goal.invariant-each
invariant-each l = Widens l.before l.fn.needs l.needs

abbrev pub decreases-each : goal.decreases-each
decreases-each l = l.rest

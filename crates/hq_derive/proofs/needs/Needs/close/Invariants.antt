use Rattle.hq_derive.specs.Needed.{Widens}
use Rattle.hq_derive.proofs.needs.Needs.close.Given as goal

abbrev pub invariant-loop-ahead : goal.invariant-loop-ahead
invariant-loop-ahead l = Widens l.before l.fn.self l.self

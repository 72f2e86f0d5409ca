use Rattle.hq_derive.specs.Needed.{Widens}
use Rattle.hq_derive.proofs.resting.need_under_round.Given as goal

abbrev pub invariant-loop-p : goal.invariant-loop-p
invariant-loop-p l = Widens l.before l.fn.needs l.needs

use Rattle.hq_derive.specs.Needed.{Widens}
use Rattle.hq_derive.proofs.resting.need_branches.Given as goal

abbrev pub invariant-loop-slot : goal.invariant-loop-slot
invariant-loop-slot l = Widens l.before l.fn.needs l.needs

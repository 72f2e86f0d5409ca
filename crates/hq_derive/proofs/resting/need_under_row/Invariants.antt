use Rattle.hq_derive.specs.Needed.{Widens}
use Rattle.hq_derive.proofs.resting.need_under_row.Given as goal

abbrev pub invariant-loop-place : goal.invariant-loop-place
invariant-loop-place l = Widens l.before l.fn.needs l.needs

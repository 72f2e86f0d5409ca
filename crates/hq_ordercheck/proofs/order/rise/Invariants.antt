use Rattle.std.proofs.Common.{◌≤◌}
use Rattle.hq_ordercheck.specs.Placed.{RisesOn}
use Rattle.hq_ordercheck.proofs.order.rise.Given as goal

abbrev pub invariant-loop-r : goal.invariant-loop-r
invariant-loop-r l = RisesOn l.places l.start l.r × (l.start ≤ l.r)

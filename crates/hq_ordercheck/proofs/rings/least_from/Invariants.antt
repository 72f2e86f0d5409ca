use Rattle.hq_ordercheck.proofs.Orders.{IsLeast}
use Rattle.hq_ordercheck.proofs.rings.least_from.Given as goal

abbrev pub invariant-loop-r : goal.invariant-loop-r
invariant-loop-r l = IsLeast l.turns l.places l.m l.r l.least

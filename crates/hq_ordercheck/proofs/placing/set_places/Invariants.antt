use Rattle.std.proofs.Common.{length}
use Rattle.hq_ordercheck.proofs.Places.{ArePlacedFrom}
use Rattle.hq_ordercheck.proofs.placing.set_places.Given as goal

abbrev pub invariant-loop-at : goal.invariant-loop-at
invariant-loop-at l = ArePlacedFrom l.list l.at (length l.fn.places) l.places

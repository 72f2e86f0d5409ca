use Rattle.hq_derive.specs.Through.{AreThrough}
use Rattle.hq_derive.proofs.through.are_through_between.Given as goal

abbrev pub invariant-loop-k : goal.invariant-loop-k
invariant-loop-k l = AreThrough l.ahead l.shorts l.from l.k

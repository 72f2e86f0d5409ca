use Rattle.std.proofs.Common.{◌≡◌, ◌==◌, count_by, take}
use Rattle.hq_footprint.proofs.evaluating.count_of.Given as goal

abbrev pub invariant-loop-other : goal.invariant-loop-other
invariant-loop-other l = l.count ≡ count_by (λ x. x == l.byte) (take l.other-index l.bytes)

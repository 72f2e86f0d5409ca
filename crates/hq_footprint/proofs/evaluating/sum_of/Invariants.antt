use Rattle.std.proofs.Common.{◌≡◌, ◌%◌, ◌^◌, sum, take}
use Rattle.hq_footprint.proofs.evaluating.sum_of.Given as goal

abbrev pub invariant-loop-byte : goal.invariant-loop-byte
invariant-loop-byte l = l.total ≡ sum (take l.byte-index l.bytes) % 2 ^ 64

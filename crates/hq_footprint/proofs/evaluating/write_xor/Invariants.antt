use Rattle.std.proofs.Common.{◌≡◌, bit_xor, take}
use Rattle.hq_footprint.specs.Tasks.{joined_by}
use Rattle.hq_footprint.proofs.evaluating.write_xor.Given as goal

abbrev pub invariant-loop-place : goal.invariant-loop-place
invariant-loop-place l = take l.place l.out ≡ joined_by bit_xor (take l.place l.first) (take l.place l.second)

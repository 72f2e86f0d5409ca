use Rattle.std.proofs.Common.{◌≡◌, ◌+◌, ◌%◌, take}
use Rattle.hq_footprint.specs.Tasks.{joined_by}
use Rattle.hq_footprint.proofs.evaluating.write_sums.Given as goal

abbrev pub invariant-loop-place : goal.invariant-loop-place
invariant-loop-place l = take l.place l.out ≡ joined_by (λ x y. (x + y) % 256) (take l.place l.first) (take l.place l.second)

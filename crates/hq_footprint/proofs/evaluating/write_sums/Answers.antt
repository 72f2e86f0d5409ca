use Rattle.std.proofs.Common.{◌+◌, ◌%◌, arith}
use Rattle.hq_footprint.proofs.Results.{joined_written}
use Rattle.hq_footprint.proofs.evaluating.write_sums.Goals as goal

pub loop-place-preserved : goal.loop-place-preserved
loop-place-preserved c = joined_written (λ x y. (x + y) % 256) c.args.first.now c.args.second.now c.loop-place.out c.loop-place.place (omega arith) (omega arith) (omega arith) c.loop-place.invariant

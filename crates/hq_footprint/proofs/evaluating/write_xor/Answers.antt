use Rattle.std.proofs.Common.{bit_xor, arith}
use Rattle.hq_footprint.proofs.Results.{joined_written}
use Rattle.hq_footprint.proofs.evaluating.write_xor.Goals as goal

pub loop-place-preserved : goal.loop-place-preserved
loop-place-preserved c = joined_written bit_xor c.args.first.now c.args.second.now c.loop-place.out c.loop-place.place (omega arith) (omega arith) (omega arith) c.loop-place.invariant

use Rattle.std.proofs.Common.{arith, bit_and}
use Rattle.hq_bits.proofs.Sets.{has_met, joined_cut}
use Rattle.hq_bits.proofs.meet.Goals as goal

pub returns : goal.returns
returns c = λ p. has_met c.args.row.now c.args.other.now c.loop-i.row p (joined_cut bit_and c.args.row.now c.args.other.now c.loop-i.row c.loop-i.i c.requires (omega arith) c.loop-i.invariant)

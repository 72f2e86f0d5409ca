use Rattle.std.proofs.Common.{arith}
use Rattle.hq_bits.proofs.Sets.{has_less, joined_cut, less_word}
use Rattle.hq_bits.proofs.take_out.Goals as goal

pub returns : goal.returns
returns c = λ p. has_less c.args.row.now c.args.other.now c.loop-i.row p (joined_cut less_word c.args.row.now c.args.other.now c.loop-i.row c.loop-i.i c.requires (omega arith) c.loop-i.invariant)

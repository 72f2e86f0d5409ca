use Rattle.std.proofs.Common.{arith, bit_or}
use Rattle.hq_bits.proofs.Sets.{has_united, joined_cut}
use Rattle.hq_bits.proofs.Words.{grown_united}
use Rattle.hq_bits.proofs.unite.Goals as goal

pub returns-clause-grown : goal.returns-clause-grown
returns-clause-grown c = grown_united c.args.row.now c.args.other.now c.loop-i.row (joined_cut bit_or c.args.row.now c.args.other.now c.loop-i.row c.loop-i.i c.requires (omega arith) c.loop-i.invariant)

pub returns-clause-exact : goal.returns-clause-exact
returns-clause-exact c = λ p. has_united c.args.row.now c.args.other.now c.loop-i.row p (joined_cut bit_or c.args.row.now c.args.other.now c.loop-i.row c.loop-i.i c.requires (omega arith) c.loop-i.invariant)

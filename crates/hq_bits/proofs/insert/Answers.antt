use Rattle.hq_bits.proofs.Sets.{has_insert}
use Rattle.hq_bits.proofs.insert.Goals as goal

pub returns : goal.returns
returns c = λ p. has_insert c.args.row.now c.args.number p c.requires

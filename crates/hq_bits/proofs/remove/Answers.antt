use Rattle.hq_bits.proofs.Sets.{has_remove}
use Rattle.hq_bits.proofs.remove.Goals as goal

pub returns : goal.returns
returns c = λ p. has_remove c.args.row.now c.args.number p c.requires

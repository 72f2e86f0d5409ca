use Rattle.hq_bits.proofs.Sets.{less_at}
use Rattle.hq_bits.proofs.less.Goals as goal

pub returns : goal.returns
returns c = less_at c.args.word c.args.other

use Rattle.hq_rows.proofs.Exchanging.{exchanged_words}
use Rattle.hq_rows.proofs.turning.exchange_at.Goals as goal

pub returns : goal.returns
returns c =
    let up = c.requires.half.up c.args.k c.requires.low c.requires.is_lower in
    exchanged_words c.args.step c.args.k c.args.block.now c.lower.result c.upper.result c.requires.half.some c.told-block up.0 c.requires.is_lower up.1 c.lower.ensures.own c.lower.ensures.other c.upper.ensures.own c.upper.ensures.other

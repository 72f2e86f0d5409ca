use Rattle.hq_witness.proofs.Bytes.{in_others}
use Rattle.hq_witness.proofs.packets.+is_in_some.Goals as goal

pub returns-else-is_in : goal.returns-else-is_in
returns-else-is_in t c =
    in_others c.args.ranges.now c.in-Some.first.now c.in-Some.rest.now c.args.byte c.is_in.result c.is_in_some.result c.in-Some.ensures.cases.0 c.is_in.ensures c.if-is_in.false c.is_in_some.ensures

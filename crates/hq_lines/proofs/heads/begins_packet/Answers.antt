use Rattle.hq_lines.proofs.PacketLines.{begins_found}
use Rattle.hq_lines.proofs.heads.begins_packet.Goals as goal

pub returns : goal.returns
returns c = begins_found (λ x. x.now) c.behind.result c.args.line.now c.as_slice.result.now c.is_some.result c.is_some.ensures c.as_slice.ensures c.behind.ensures

use Rattle.hq_lines.specs.Meaning.{view}
use Rattle.hq_lines.proofs.Digits.{packet_found}
use Rattle.hq_lines.proofs.read.packet_line.Goals as goal

pub returns : goal.returns
returns c = packet_found view c.packet_said.result _ c.ok.result c.args.line.now c.as_slice.result.now c.in_ok-behind.field-0.now c.as_slice.ensures c.in_ok-behind.ensures c.packet_said.ensures c.ok.ensures.value

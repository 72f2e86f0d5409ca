use Rattle.hq_lines.proofs.laws.packets_begin.Goals as goal
use Rattle.hq_lines.proofs.PacketLines.{packets_begin}

pub returns : goal.returns
returns c = packets_begin

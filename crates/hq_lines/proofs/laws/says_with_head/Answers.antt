use Rattle.hq_lines.proofs.laws.says_with_head.Goals as goal
use Rattle.hq_lines.proofs.PacketLines.{says_with_head}

pub returns : goal.returns
returns c = says_with_head

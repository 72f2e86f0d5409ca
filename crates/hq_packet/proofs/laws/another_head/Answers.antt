use Rattle.hq_packet.proofs.laws.another_head.Goals as goal
use Rattle.hq_packet.proofs.Heads.{another_head}

pub returns : goal.returns
returns c = another_head

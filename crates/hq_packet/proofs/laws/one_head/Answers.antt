use Rattle.hq_packet.proofs.laws.one_head.Goals as goal
use Rattle.hq_packet.proofs.Heads.{one_head}

pub returns : goal.returns
returns c = one_head

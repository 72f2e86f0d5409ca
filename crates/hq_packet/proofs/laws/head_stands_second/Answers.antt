use Rattle.hq_packet.proofs.laws.head_stands_second.Goals as goal
use Rattle.hq_packet.proofs.Heads.{head_stands_second}

pub returns : goal.returns
returns c = head_stands_second

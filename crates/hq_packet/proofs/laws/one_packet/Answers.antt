use Rattle.hq_packet.proofs.laws.one_packet.Goals as goal
use Rattle.hq_packet.proofs.Packets.{one_packet}

pub returns : goal.returns
returns c = one_packet

use Rattle.hq_packet.proofs.laws.faultless_where_spelled.Goals as goal
use Rattle.hq_packet.proofs.Packets.{no_fault}

pub returns : goal.returns
returns c = no_fault

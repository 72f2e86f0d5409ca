use Rattle.hq_packet.proofs.laws.one_spelling.Goals as goal
use Rattle.hq_packet.proofs.Packets.{one_text}

pub returns : goal.returns
returns c = one_text

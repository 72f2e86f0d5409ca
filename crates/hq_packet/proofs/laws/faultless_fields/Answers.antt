use Rattle.hq_packet.proofs.laws.faultless_fields.Goals as goal
use Rattle.hq_packet.proofs.Dispatches.{faultless_fields}

pub returns : goal.returns
returns c = faultless_fields

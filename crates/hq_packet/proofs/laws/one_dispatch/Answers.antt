use Rattle.hq_packet.proofs.laws.one_dispatch.Goals as goal
use Rattle.hq_packet.proofs.Dispatches.{one_dispatch}

pub returns : goal.returns
returns c = one_dispatch

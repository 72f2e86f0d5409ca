use Rattle.hq_order.proofs.Scopes as laws
use Rattle.hq_order.proofs.laws.scopes_leave_rounds.Goals as goal

pub returns : goal.returns
returns c = laws.scopes_leave_rounds

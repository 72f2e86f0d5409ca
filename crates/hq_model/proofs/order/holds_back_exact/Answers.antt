use Rattle.hq_model.proofs.order.holds_back_exact.Goals as goal
use Rattle.hq_model.proofs.Exact as laws

pub returns : goal.returns
returns c = laws.holds_back_exact

use Rattle.hq_model.proofs.order.full_order_exact.Goals as goal
use Rattle.hq_model.proofs.Exact as laws

pub returns : goal.returns
returns c = laws.full_order_exact

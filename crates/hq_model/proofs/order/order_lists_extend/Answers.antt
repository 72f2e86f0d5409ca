use Rattle.hq_model.proofs.order.order_lists_extend.Goals as goal
use Rattle.hq_model.proofs.Orders as laws

pub returns : goal.returns
returns c = laws.order_lists_extend

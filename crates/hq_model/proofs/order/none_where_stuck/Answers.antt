use Rattle.hq_model.proofs.order.none_where_stuck.Goals as goal
use Rattle.hq_model.proofs.Orders as laws

pub returns : goal.returns
returns c = laws.none_where_stuck

use Rattle.hq_model.proofs.order.ordered_or_stuck.Goals as goal
use Rattle.hq_model.proofs.Schedule as laws

pub returns : goal.returns
returns c = laws.ordered_or_stuck

use Rattle.hq_model.proofs.order.schedules_settle.Goals as goal
use Rattle.hq_model.proofs.Schedule as laws

pub returns : goal.returns
returns c = laws.schedules_settle

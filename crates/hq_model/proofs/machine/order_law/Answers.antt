use Rattle.hq_model.proofs.machine.order_law.Goals as goal
use Rattle.hq_model.proofs.Kept as laws

pub returns : goal.returns
returns c = laws.order_law

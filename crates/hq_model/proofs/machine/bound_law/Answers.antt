use Rattle.hq_model.proofs.machine.bound_law.Goals as goal
use Rattle.hq_model.proofs.Bound as laws

pub returns : goal.returns
returns c = laws.bound_law

use Rattle.hq_model.proofs.machine.stuck_law.Goals as goal
use Rattle.hq_model.proofs.Stuck as laws

pub returns : goal.returns
returns c = laws.stuck_law

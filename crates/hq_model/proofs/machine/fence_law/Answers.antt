use Rattle.hq_model.proofs.machine.fence_law.Goals as goal
use Rattle.hq_model.proofs.Moves as laws

pub returns : goal.returns
returns c = laws.fence_law

use Rattle.hq_model.proofs.machine.coarse_law.Goals as goal
use Rattle.hq_model.proofs.Rested as laws

pub returns : goal.returns
returns c = laws.coarse_law

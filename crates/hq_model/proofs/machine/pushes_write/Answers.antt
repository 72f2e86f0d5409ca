use Rattle.hq_model.proofs.machine.pushes_write.Goals as goal
use Rattle.hq_model.proofs.Moves as laws

pub returns : goal.returns
returns c = laws.pushes_write

use Rattle.hq_model.proofs.machine.steps_determined.Goals as goal
use Rattle.hq_model.proofs.Determined as laws

pub returns : goal.returns
returns c = laws.steps_determined

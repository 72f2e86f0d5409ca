use Rattle.hq_model.proofs.machine.completion_reached.Goals as goal
use Rattle.hq_model.proofs.Readied as laws

pub returns : goal.returns
returns c = laws.completion_reached

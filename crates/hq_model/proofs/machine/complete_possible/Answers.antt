use Rattle.hq_model.proofs.machine.complete_possible.Goals as goal
use Rattle.hq_model.proofs.Finished as laws

pub returns : goal.returns
returns c = laws.complete_possible

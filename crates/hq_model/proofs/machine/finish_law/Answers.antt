use Rattle.hq_model.proofs.machine.finish_law.Goals as goal
use Rattle.hq_model.proofs.Finishing as laws

pub returns : goal.returns
returns c = laws.finish_law

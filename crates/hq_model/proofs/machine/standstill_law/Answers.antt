use Rattle.hq_model.proofs.machine.standstill_law.Goals as goal
use Rattle.hq_model.proofs.Finishing as laws

pub returns : goal.returns
returns c = laws.standstill_law

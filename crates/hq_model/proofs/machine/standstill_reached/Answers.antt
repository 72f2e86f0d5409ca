use Rattle.hq_model.proofs.machine.standstill_reached.Goals as goal
use Rattle.hq_model.proofs.Standstill as laws

pub returns : goal.returns
returns c = laws.standstill_reached

use Rattle.hq_model.proofs.machine.stuck_exact.Goals as goal
use Rattle.hq_model.proofs.Standstill as laws

pub returns : goal.returns
returns c = laws.stuck_exact

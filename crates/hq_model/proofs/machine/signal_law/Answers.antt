use Rattle.hq_model.proofs.machine.signal_law.Goals as goal
use Rattle.hq_model.proofs.Signals as laws

pub returns : goal.returns
returns c = laws.signal_law

use Rattle.hq_model.proofs.machine.entry_readied.Goals as goal
use Rattle.hq_model.proofs.Readied as laws

pub returns : goal.returns
returns c = laws.entry_readied

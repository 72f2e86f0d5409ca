use Rattle.hq_model.proofs.machine.fills_unseen.Goals as goal
use Rattle.hq_model.proofs.Moves as laws

pub returns : goal.returns
returns c = laws.fills_unseen

use Rattle.hq_model.proofs.machine.origins_tell.Goals as goal
use Rattle.hq_model.proofs.Origins as laws

pub returns : goal.returns
returns c = laws.origins_tell

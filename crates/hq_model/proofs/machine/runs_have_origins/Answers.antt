use Rattle.hq_model.proofs.machine.runs_have_origins.Goals as goal
use Rattle.hq_model.proofs.Origins as laws

pub returns : goal.returns
returns c = laws.runs_have_origins

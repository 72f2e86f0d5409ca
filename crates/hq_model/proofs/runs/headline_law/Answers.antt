use Rattle.hq_model.proofs.runs.headline_law.Goals as goal
use Rattle.hq_model.proofs.End as laws

pub returns : goal.returns
returns c = laws.headline_law

use Rattle.hq_model.proofs.runs.end_law.Goals as goal
use Rattle.hq_model.proofs.End as laws

pub returns : goal.returns
returns c = laws.end_law

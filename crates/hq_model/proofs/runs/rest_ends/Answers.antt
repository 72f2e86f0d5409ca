use Rattle.hq_model.proofs.runs.rest_ends.Goals as goal
use Rattle.hq_model.proofs.Rested as laws

pub returns : goal.returns
returns c = laws.rest_ends

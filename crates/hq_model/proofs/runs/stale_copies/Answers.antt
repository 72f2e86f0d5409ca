use Rattle.hq_model.proofs.runs.stale_copies.Goals as goal
use Rattle.hq_model.proofs.Stale as laws

pub returns : goal.returns
returns c = laws.stale_copies

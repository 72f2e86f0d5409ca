use Rattle.hq_model.proofs.runs.versions_exist.Goals as goal
use Rattle.hq_model.proofs.Writers as laws

pub returns : goal.returns
returns c = laws.versions_exist

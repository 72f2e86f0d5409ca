use Rattle.hq_footprint.proofs.laws.services_suit.Goals as goal
use Rattle.hq_footprint.proofs.TaskLaws as laws

pub returns : goal.returns
returns c = laws.services_suit

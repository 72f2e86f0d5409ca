use Rattle.hq_footprint.proofs.laws.results_counted.Goals as goal
use Rattle.hq_footprint.proofs.TaskLaws as laws

pub returns : goal.returns
returns c = laws.results_counted

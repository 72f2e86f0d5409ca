use Rattle.hq_footprint.proofs.laws.entries_counted.Goals as goal
use Rattle.hq_footprint.proofs.RangeBytes as laws

pub returns : goal.returns
returns c = laws.entries_counted

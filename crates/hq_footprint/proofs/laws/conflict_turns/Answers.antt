use Rattle.hq_footprint.proofs.laws.conflict_turns.Goals as goal
use Rattle.hq_footprint.proofs.RangeBytes as laws

pub returns : goal.returns
returns c = laws.conflict_turns

use Rattle.hq_footprint.proofs.laws.overlaps_share.Goals as goal
use Rattle.hq_footprint.proofs.RangeBytes as laws

pub returns : goal.returns
returns c = laws.overlaps_share

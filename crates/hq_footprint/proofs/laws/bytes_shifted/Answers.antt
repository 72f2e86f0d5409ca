use Rattle.hq_footprint.proofs.laws.bytes_shifted.Goals as goal
use Rattle.hq_footprint.proofs.RangeBytes as laws

pub returns : goal.returns
returns c = laws.bytes_shifted

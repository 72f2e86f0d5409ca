use Rattle.hq_footprint.proofs.laws.inside_has_bytes.Goals as goal
use Rattle.hq_footprint.proofs.RangeBytes as laws

pub returns : goal.returns
returns c = laws.inside_has_bytes

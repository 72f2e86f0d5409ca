use Rattle.hq_footprint.proofs.laws.share_renumbered.Goals as goal
use Rattle.hq_footprint.proofs.RangeBytes as laws

pub returns : goal.returns
returns c = laws.share_renumbered

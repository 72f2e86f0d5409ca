use Rattle.hq_timeline.proofs.laws.faultless_where_journal.Goals as goal
use Rattle.hq_timeline.proofs.Faults as laws

pub returns : goal.returns
returns c = laws.faultless

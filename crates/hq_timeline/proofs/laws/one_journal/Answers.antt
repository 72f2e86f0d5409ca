use Rattle.hq_timeline.proofs.laws.one_journal.Goals as goal
use Rattle.hq_timeline.proofs.Wholes as laws

pub returns : goal.returns
returns c = laws.one_journal

use Rattle.std.proofs.Common.{append_assoc}
use Rattle.hq_plain.proofs.statuses.EventWordsDisplay.fmt.Goals as goal

pub returns-clause-writes : goal.returns-clause-writes
returns-clause-writes g c plain ok = simp append_assoc (c.write.ensures.writes plain ok)

use Rattle.std.proofs.Common.{append_assoc}
use Rattle.hq_plain.proofs.statuses.LackDisplay.fmt.Goals as goal

pub returns-in-Unordered-clause-writes : goal.returns-in-Unordered-clause-writes
returns-in-Unordered-clause-writes g c plain ok = rw c.in-Unordered.is (simp append_assoc (c.write.ensures.writes plain ok))

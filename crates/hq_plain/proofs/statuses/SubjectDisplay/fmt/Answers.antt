use Rattle.std.proofs.Common.{append_assoc}
use Rattle.hq_plain.proofs.statuses.SubjectDisplay.fmt.Goals as goal

pub returns-in-Read-clause-writes : goal.returns-in-Read-clause-writes
returns-in-Read-clause-writes g c plain ok = rw c.in-Read.is (simp append_assoc (c.write.ensures.writes plain ok))

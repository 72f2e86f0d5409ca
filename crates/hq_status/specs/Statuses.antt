-- The program's exit statuses.
use Rattle.std.specs.Prelude.{ℕ}
use Rattle.hq_finding.specs.declared.found.Found.{Found}
use Rattle.hq_finding.specs.declared.found.Found.TheVariants as found
use Rattle.hq_status.specs.declared.status.Status.{Status}
use Rattle.hq_status.specs.declared.status.Status.TheVariants as status

-- the exit status for what an audit finds
abbrev pub code_of_found : Found → ℕ
code_of_found found.Ordered = 0
code_of_found found.Conflict = 4
code_of_found found.Stuck = 5

-- the exit status for how a command ended
abbrev pub code_of : Status → ℕ
code_of status.Done = 0
code_of status.Words = 2
code_of status.PairWords = 2
code_of (status.JobRefused fault) = 3
code_of (status.PacketRefused fault) = 3
code_of (status.Conflict p r kind why) = 4
code_of status.Stuck = 5
code_of (status.Drawn found) = code_of_found found
code_of (status.Explained found) = code_of_found found
code_of (status.Shown difference) = 4
code_of (status.CertificateRefused fault) = 6
code_of (status.CertificateFails fault) = 6
code_of (status.TimelineRefused fault) = 7
code_of (status.NotEnabled place) = 7
code_of (status.DrawnUntil place) = 7
code_of (status.RunFailed failure) = 7
code_of status.Memory = 8
code_of status.Unopened = 9
code_of status.File = 9

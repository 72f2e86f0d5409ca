-- How commands end, in plain words.
use Rattle.std.specs.Prelude.{ℕ, List, [], ◌++◌, Option, Some, None, codes}
use Rattle.std.specs.Fmt.{decimal}
use Rattle.hq_finding.specs.declared.found.Found.{Found}
use Rattle.hq_finding.specs.declared.found.Found.TheVariants as found
use Rattle.hq_finding.specs.declared.kind.Kind.{Kind}
use Rattle.hq_finding.specs.declared.kind.Kind.TheVariants.{WriteRead, WriteWrite, ReadWrite}
use Rattle.hq_finding.specs.declared.why.Why.{Why}
use Rattle.hq_finding.specs.declared.why.Why.TheVariants.{Unordered, NotReleased, NotAcquired}
use Rattle.hq_report.specs.Spots.{offset_text}
use Rattle.hq_status.specs.declared.status.Difference.{Difference}
use Rattle.hq_status.specs.declared.status.Differs.{Differs}
use Rattle.hq_status.specs.declared.status.Differs.TheVariants.{Read, Memory}
use Rattle.hq_status.specs.declared.status.Status.{Status}
use Rattle.hq_status.specs.declared.status.Status.TheVariants as status
use Rattle.hq_plain.specs.Faults.{cert_words, check_words, time_words, failure_words}
use Rattle.hq_plain.specs.Jobs.{job_words, packet_words}

-- what packets p and r do that conflicts
abbrev pub clash_words : ℕ → ℕ → Kind → List ℕ
clash_words p r WriteRead = codes "packet " ++ decimal r ++ codes " reads what packet " ++ decimal p ++ codes " writes"
clash_words p r WriteWrite = codes "packets " ++ decimal p ++ codes " and " ++ decimal r
    ++ codes " write the same bytes"
clash_words p r ReadWrite = codes "packet " ++ decimal r ++ codes " writes what packet " ++ decimal p ++ codes " reads"

-- what they lack
abbrev pub lack_words : ℕ → ℕ → Why → List ℕ
lack_words p r Unordered =
    codes "nothing makes packet " ++ decimal r ++ codes " wait until packet " ++ decimal p ++ codes " is complete"
lack_words p r NotReleased = codes "no release fence makes what packet " ++ decimal p
    ++ codes " wrote visible before packet " ++ decimal r
lack_words p r NotAcquired = codes "no acquire fence lets packet " ++ decimal r ++ codes " see what packet "
    ++ decimal p ++ codes " released"

-- where a byte comes from: the packet that stored it, or the start
abbrev pub origin_words : Option ℕ → List ℕ
origin_words (Some packet) = codes "as packet " ++ decimal packet ++ codes " stored it"
origin_words None = codes "as it was at the start"

-- what can end or be read in two ways
abbrev pub subject_words : Differs → List ℕ
subject_words (Read packet entry) = codes "packet " ++ decimal packet ++ codes " can read entry " ++ decimal entry
subject_words (Memory (Some spot)) = offset_text spot ++ codes " can end"
subject_words (Memory None) = codes "a byte of memory can end"

-- how two runs of a job differ
abbrev pub difference_words : Difference → List ℕ
difference_words d = subject_words d.place ++ codes " " ++ origin_words d.good ++ codes ", and in another run "
    ++ origin_words d.bad

-- what is drawn in red
abbrev pub drawn_words : Found → List ℕ
drawn_words found.Ordered = []
drawn_words found.Conflict = codes "nothing orders the conflicts that are drawn in red"
drawn_words found.Stuck = codes "the packets drawn in red can never complete, in any run"

-- which event can't happen where it stands, with what is said of that aside
abbrev pub event_words : List ℕ → ℕ → List ℕ
event_words aside place = codes "an event isn't enabled after those before it" ++ aside
    ++ codes ": counted from 0, number " ++ decimal place

-- What a status means. Of an answer that is all that was asked for there is nothing to say, an explanation says all of
-- it itself, and why a file can't be opened was said by then.
abbrev pub meaning : Status → List ℕ
meaning status.Done = []
meaning status.Unopened = []
meaning (status.Explained found) = []
meaning status.Words = codes "these words are no packet; `hsaq pack --help` lists the fields"
meaning status.PairWords = codes "--pair wants the numbers of two packets, as in --pair 0 2"
meaning (status.JobRefused fault) = job_words fault
meaning (status.PacketRefused fault) = packet_words fault
meaning (status.Conflict p r kind why) = clash_words p r kind ++ codes ", but " ++ lack_words p r why
meaning status.Stuck = codes "these packets can never complete, in any run"
meaning (status.Drawn found) = drawn_words found
meaning (status.Shown difference) = difference_words difference
meaning (status.CertificateRefused fault) = cert_words fault
meaning (status.CertificateFails fault) = check_words fault
meaning (status.TimelineRefused fault) = time_words fault
meaning (status.NotEnabled place) = event_words [] place
meaning (status.DrawnUntil place) = event_words (codes ", up to which the timeline is drawn") place
meaning (status.RunFailed failure) = failure_words failure
meaning status.Memory = codes "there is no memory for it"
meaning status.File = codes "a file or a stream failed, so there is no whole answer"

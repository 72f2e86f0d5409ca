-- Faults of certificates, timelines and runs in plain words.
use Rattle.std.specs.Prelude.{ℕ, List, ◌++◌, codes}
use Rattle.std.specs.Fmt.{decimal}
use Rattle.hq_certread.specs.declared.fault.CertFault.{CertFault}
use Rattle.hq_certread.specs.declared.fault.CertReason.{CertReason}
use Rattle.hq_certread.specs.declared.fault.CertReason.TheVariants as cert
use Rattle.hq_status.specs.declared.status.CheckFault.{CheckFault}
use Rattle.hq_status.specs.declared.status.CheckFault.TheVariants as check
use Rattle.hq_status.specs.declared.status.TimelineFault.{TimelineFault}
use Rattle.hq_status.specs.declared.status.TimelineReason.{TimelineReason}
use Rattle.hq_status.specs.declared.status.TimelineReason.TheVariants as time
use Rattle.hq_status.specs.declared.status.RunFailure.{RunFailure}
use Rattle.hq_status.specs.declared.status.RunFailure.TheVariants as failure

-- what is wrong with a certificate's line
abbrev pub cert_reason : CertReason → List ℕ
cert_reason cert.Word =
    codes "an unknown or misplaced first word, an unknown rule or kind, a wrong count of words, or a line behind `end`"
cert_reason cert.Number =
    codes "no number up to 4294967295, a line's number out of turn, or `=` where it may not stand"
cert_reason cert.Citation = codes "a citation of a line that isn't lower, or isn't there"
cert_reason cert.NoEnd = codes "the text ends without `end`"
cert_reason cert.Memory = codes "out of memory"

-- the refusal of a certificate's text: the line, and what is wrong with it
abbrev pub cert_words : CertFault → List ℕ
cert_words fault = codes "in the certificate, line " ++ decimal fault.line ++ codes ": " ++ cert_reason fault.reason

-- why a certificate doesn't hold
abbrev pub check_words : CheckFault → List ℕ
check_words check.Order = codes "the packets can't come in this order"
check_words (check.Line k) = codes "a line that doesn't follow from what it cites: line " ++ decimal k
check_words (check.PairMissing p r) =
    codes "a conflict without its pair line: packets " ++ decimal p ++ codes " " ++ decimal r
check_words (check.Pair p r) = codes "a pair line that doesn't hold: packets " ++ decimal p ++ codes " " ++ decimal r

-- what is wrong with a timeline's line
abbrev pub time_reason : TimelineReason → List ℕ
time_reason time.Word = codes "an unknown or misplaced first word, a wrong count of words, or a line behind `end`"
time_reason time.Number = codes "no number up to 4294967295"
time_reason time.NoEnd = codes "the text ends without `end`"

-- the refusal of a timeline's text: the line, and what is wrong with it
abbrev pub time_words : TimelineFault → List ℕ
time_words fault = codes "in the timeline, line " ++ decimal fault.line ++ codes ": " ++ time_reason fault.reason

-- why a run was stopped
abbrev pub failure_words : RunFailure → List ℕ
failure_words (failure.Kernel packet) =
    codes "the body of packet " ++ decimal packet ++ codes " failed, and the run was stopped"
failure_words failure.Split = codes "the signals' words and the record of the run tell of different events"
failure_words (failure.Receipts queue) = codes "what a thread says that it did isn't what was done"
failure_words failure.Unfinished = codes "the run stopped before all packets were complete"

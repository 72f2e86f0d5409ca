-- What `check` writes.
use Rattle.std.specs.Prelude.{◌≡◌, ℕ, ◌⊎◌, List, ◌++◌, Option, Result, Ok, Err, length, codes}
use Rattle.std.specs.Fmt.{decimal}
use Rattle.hq_text.specs.Lines.{lines_of}
use Rattle.hq_job.specs.Plan.{plan}
use Rattle.hq_job.specs.Value.{JobValue}
use Rattle.hq_model.specs.Certificate.{Certificate, CertHolds}
use Rattle.hq_model.specs.Machine.{bound}
use Rattle.hq_model.specs.Theorems.{Headline}
use Rattle.hq_certtext.specs.Grammar.{CertText}
use Rattle.hq_certread.specs.TextFaults.{FirstFault}
use Rattle.hq_certread.specs.declared.fault.CertFault.{CertFault}
use Rattle.hq_certread.specs.declared.fault.CertReason.{CertReason}
use Rattle.hq_certread.specs.declared.fault.CertReason.TheVariants as reason
use Rattle.hq_certcheck.specs.Refusals.{IsRefused}
use Rattle.hq_certcheck.specs.View.{AcceptedJob}
use Rattle.hq_certcheck.specs.declared.fault.CheckNo.{CheckNo}
use Rattle.hq_certcheck.specs.declared.fault.CheckNo.TheVariants as no
use Rattle.hq_status.specs.Reports.{Said, with_feed}
use Rattle.hq_status.specs.declared.status.CheckFault.TheVariants as check
use Rattle.hq_status.specs.declared.status.Status.{Status}
use Rattle.hq_status.specs.declared.status.Status.TheVariants.{Done, CertificateRefused, CertificateFails, Memory}

-- ---- the lines

-- the code of what is wrong with a certificate's line
abbrev pub reason_code : CertReason → List ℕ
reason_code reason.Word = codes "K1"
reason_code reason.Number = codes "K2"
reason_code reason.Citation = codes "K3"
reason_code reason.NoEnd = codes "K4"
reason_code reason.Memory = codes "K5"

-- the refusal of a certificate's text: the line, and the code of what is wrong with it
abbrev pub cert_refusal : CertFault → List ℕ
cert_refusal fault = codes "refused line " ++ decimal fault.line ++ codes " " ++ reason_code fault.reason

-- that a certificate is accepted: how many packets the job has, and how many work steps a run makes at most
abbrev pub accepted_text : ℕ → ℕ → List ℕ
accepted_text packets bound = codes "accepted packets " ++ decimal packets ++ codes " bound " ++ decimal bound

-- that line k of the certificate doesn't hold
abbrev pub bad_line_text : ℕ → List ℕ
bad_line_text k = codes "refused V2 " ++ decimal k

-- that p and r conflict and lack their pair lines
abbrev pub pair_missing_text : ℕ → ℕ → List ℕ
pair_missing_text p r = codes "refused V3 " ++ decimal p ++ codes " " ++ decimal r

-- that a pair line of p and r doesn't hold
abbrev pub bad_pair_text : ℕ → ℕ → List ℕ
bad_pair_text p r = codes "refused V4 " ++ decimal p ++ codes " " ++ decimal r

-- the line of a refusal
abbrev pub refusal_text : CheckNo → List ℕ
refusal_text no.BadOrder = codes "refused V1"
refusal_text (no.BadLine k) = bad_line_text k
refusal_text (no.PairMissing p r) = pair_missing_text p r
refusal_text (no.BadPair p r) = bad_pair_text p r
refusal_text no.Memory = codes "out of memory"

-- and its status
abbrev pub refusal_status : CheckNo → Status
refusal_status no.BadOrder = CertificateFails check.Order
refusal_status (no.BadLine k) = CertificateFails (check.Line k)
refusal_status (no.PairMissing p r) = CertificateFails (check.PairMissing p r)
refusal_status (no.BadPair p r) = CertificateFails (check.Pair p r)
refusal_status no.Memory = Memory

-- ---- the reports

-- Why there is no certificate: the text has a first fault.
pub data NoCertificate (text : List ℕ) : List ℕ → Status → Type 0 where
  refused : (fault : CertFault) → FirstFault (lines_of text) fault
      → NoCertificate text (with_feed (cert_refusal fault)) (CertificateRefused fault)

-- What is written of a job and a certificate: that it holds, and so every run of the job agrees with each order
-- that keeps the job's; or the first reason why it doesn't.
pub data CheckedReport (job : JobValue) (c : Certificate) : List ℕ → Status → Type 0 where
  accepted : CertHolds (plan job) c → Headline (plan job)
      → CheckedReport job c (with_feed (accepted_text (length job.packets) (bound (plan job)))) Done
  refused : (refusal : CheckNo) → IsRefused (plan job) c refusal
      → CheckedReport job c (with_feed (refusal_text refusal)) (refusal_status refusal)

-- What is written of a job and a certificate's text.
pub data CertReport (job : JobValue) (cert : List ℕ) : List ℕ → Status → Type 0 where
  checked : {out : List ℕ} {status : Status} (c : Certificate) → CertText (lines_of cert) c
      → CheckedReport job c out status → CertReport job cert out status
  no_certificate : {out : List ℕ} {status : Status} → NoCertificate cert out status → CertReport job cert out status

-- ---- what the parts write

-- why there is no certificate is written, by the parser's fault
abbrev pub SaysNoCertificate : CertFault → Option (List ℕ) → Option (List ℕ) → Status → Type 0
SaysNoCertificate fault old new answered =
    ((fault.reason ≡ reason.Memory) × Said old new (with_feed (codes "out of memory")) Memory answered)
    ⊎ ((¬ (fault.reason ≡ reason.Memory))
    × Said old new (with_feed (cert_refusal fault)) (CertificateRefused fault) answered)

-- why a certificate isn't accepted is written, or that memory ran out
abbrev pub NoSaid : CheckNo → Option (List ℕ) → Option (List ℕ) → Status → Type 0
NoSaid refusal old new answered = Said old new (with_feed (refusal_text refusal)) (refusal_status refusal) answered

-- what a check answered is written
abbrev pub Checked : Result AcceptedJob (CheckNo × JobValue) → Option (List ℕ) → Option (List ℕ) → Status → Type 0
Checked (Ok a) old new answered = Said old new
    (with_feed (accepted_text (length a.job.packets) (bound (plan a.job)))) Done answered
Checked (Err e) old new answered = NoSaid e.0 old new answered

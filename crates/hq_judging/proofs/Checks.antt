-- What `check` writes.
use Rattle.std.proofs.Common.{◌≡◌, ℕ, inl, inr, List, Option, IfOk, IfErr, Result, Ok, Err, length, codes, ap, subst}
use Rattle.hq_text.specs.Lines.{lines_of}
use Rattle.hq_text.specs.Intake.{OfText}
use Rattle.hq_text.specs.Turns.{ReadTurn}
use Rattle.hq_certread.specs.SoFar.{HasFault}
use Rattle.hq_certread.specs.TextFaults.{FirstFault}
use Rattle.hq_certtext.specs.Grammar.{CertText}
use Rattle.hq_certread.specs.declared.fault.CertFault.{CertFault}
use Rattle.hq_certread.specs.declared.fault.CertReason.TheVariants as reason
use Rattle.hq_judging.specs.Check.{NoCertificate, SaysNoCertificate, cert_refusal}
use Rattle.hq_judging.specs.Check.NoCertificate.{refused}
use Rattle.hq_job.specs.Plan.{plan}
use Rattle.hq_job.specs.Value.{JobValue}
use Rattle.hq_model.specs.Certificate.{Certificate, CertHolds}
use Rattle.hq_model.specs.Machine.{bound}
use Rattle.hq_model.specs.Theorems.{Headline}
use Rattle.hq_certcheck.specs.Refusals.{IsRefused}
use Rattle.hq_certcheck.specs.View.{AcceptedJob}
use Rattle.hq_certcheck.specs.declared.fault.CheckNo.{CheckNo}
use Rattle.hq_judging.specs.Check.{CheckedReport, CertReport, Checked, accepted_text, refusal_text, refusal_status}
use Rattle.hq_judging.specs.Check.CheckedReport.{accepted, refused as unaccepted}
use Rattle.hq_judging.specs.Check.CertReport.{checked, no_certificate}
use Rattle.hq_status.specs.Reports.{OfReader, ReaderReport, Reported, Said, with_feed}
use Rattle.hq_status.specs.Reports.ReaderReport.{of_text, no_memory}
use Rattle.hq_status.proofs.ReadTexts.{of_reader, missing, found}
use Rattle.hq_status.specs.declared.status.Status.{Status}
use Rattle.hq_status.specs.declared.status.Status.TheVariants.{Done, CertificateRefused, Memory}

-- a fault that isn't of memory is the text's
own : (text : List ℕ) (fault : CertFault) → HasFault (lines_of text) fault → ¬ (fault.reason ≡ reason.Memory) → FirstFault (lines_of text) fault
own text fault (inl e) not_memory = absurd (not_memory (ap (λ (f : CertFault). f.reason) e))
own text fault (inr first) not_memory = first

pub no_certificate_said : (S : Type 0) (left : S → Option (List ℕ)) (old new : S) (fault : CertFault) (was is : Option (List ℕ)) (answered : Status)
    → OfText S (ReadTurn left) 2000000 old new (λ text. HasFault (lines_of text) fault) → SaysNoCertificate fault was is answered → Reported (ReaderReport S left old new NoCertificate) was is answered
no_certificate_said S left old new fault was is answered h (inl said) = (with_feed (codes "out of memory"), Memory, no_memory, said.1)
no_certificate_said S left old new fault was is answered h (inr said) =
    (with_feed (cert_refusal fault), CertificateRefused fault, of_text (of_reader S left old new (λ text. NoCertificate text (with_feed (cert_refusal fault)) (CertificateRefused fault)) (record { text = h.text; ended = h.ended; so = refused fault (own h.text fault h.so said.0) })), said.1)

-- what a check answered is its report
pub checked_reported : (job : JobValue) (c : Certificate) (r : Result AcceptedJob (CheckNo × JobValue)) (old new : Option (List ℕ)) (answered : Status)
    → IfOk r (λ a. CertHolds (plan job) c × (a.job ≡ job) × (a.order ≡ c.order)) → IfOk r (λ a. Headline (plan job)) → IfErr r (λ e. (e.1 ≡ job) × IsRefused (plan job) c e.0)
    → Checked r old new answered → Reported (CheckedReport job c) old new answered
checked_reported job c (Ok a) old new answered holds headline why said =
    (with_feed (accepted_text (length job.packets) (bound (plan job))), Done, accepted holds.0 headline, subst (λ (j : JobValue). Said old new (with_feed (accepted_text (length j.packets) (bound (plan j)))) Done answered) holds.1 said)
checked_reported job c (Err e) old new answered holds headline why said = (with_feed (refusal_text e.0), refusal_status e.0, unaccepted e.0 why.1, said)

pub certificate_missing : (S : Type 0) (left : S → Option (List ℕ)) (old new : S) (job : JobValue) (was is : Option (List ℕ)) (answered : Status)
    → Reported (ReaderReport S left old new NoCertificate) was is answered → Reported (ReaderReport S left old new (CertReport job)) was is answered
certificate_missing S left old new job was is answered said = missing S left old new NoCertificate (CertReport job) (λ text out status why. no_certificate why) was is answered said

pub certificate_found : (S : Type 0) (left : S → Option (List ℕ)) (old new : S) (job : JobValue) (c : Certificate) (was mid is : Option (List ℕ)) (answered : Status)
    → OfReader S left old new (λ text. CertText (lines_of text) c) → mid ≡ was → Reported (CheckedReport job c) mid is answered → Reported (ReaderReport S left old new (CertReport job)) was is answered
certificate_found S left old new job c was mid is answered h same said =
    found S left old new (λ text. CertText (lines_of text) c) (CheckedReport job c) (CertReport job) (λ text out status is_text report. checked c is_text report) was mid is answered h same said

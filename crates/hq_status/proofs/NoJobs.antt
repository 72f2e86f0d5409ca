-- Why there is no job, and what is reported of one.
use Rattle.std.proofs.Common.{◌≡◌, ℕ, inl, inr, List, Option, codes, ap}
use Rattle.hq_text.specs.Intake.{OfText}
use Rattle.hq_text.specs.Lines.{lines_of}
use Rattle.hq_text.specs.Turns.{ReadTurn}
use Rattle.hq_jobtext.specs.Answered.{FaultOf}
use Rattle.hq_jobtext.specs.JobText.{JobText, FirstFault}
use Rattle.hq_job.specs.Value.{JobValue}
use Rattle.hq_jobtext.specs.declared.fault.JobFault.{JobFault}
use Rattle.hq_tables.specs.declared.fault.Reason.TheVariants as reason
use Rattle.hq_report.specs.Texts.{job_refusal}
use Rattle.hq_status.specs.Reports.{IsUnread, JobTextReport, NoJob, OfReader, ReaderReport, Reported, SaysNoJob, with_feed}
use Rattle.hq_status.specs.Reports.JobTextReport.{of_job, no_job}
use Rattle.hq_status.specs.Reports.NoJob.{refused}
use Rattle.hq_status.specs.Reports.ReaderReport.{of_text, no_text, no_memory}
use Rattle.hq_status.specs.declared.status.Status.{Status}
use Rattle.hq_status.specs.declared.status.Status.TheVariants.{JobRefused, Memory, File}
use Rattle.hq_status.proofs.ReadTexts.{of_reader, missing, found}

-- a fault that isn't of memory or of the reader is the text's
own : (f : JobFault) (failed wrong : Type 0) → FaultOf f wrong failed → ¬ (f.reason ≡ reason.Memory) → ¬ (f.reason ≡ reason.Read) → wrong
own f failed wrong (inl m) not_memory not_read = absurd (not_memory (ap (λ (g : JobFault). g.reason) m))
own f failed wrong (inr (inl h)) not_memory not_read = absurd (not_read (ap (λ (g : JobFault). g.reason) h.0))
own f failed wrong (inr (inr h)) not_memory not_read = h

pub no_job_said : (S : Type 0) (left : S → Option (List ℕ)) (old new : S) (f : JobFault) (was is : Option (List ℕ)) (answered : Status)
    → FaultOf f (OfText S (ReadTurn left) 2000000 old new (λ text. FirstFault (lines_of text) f)) (IsUnread S left old new) → (f.reason ≡ reason.Read → IsUnread S left old new)
    → SaysNoJob f was is answered → Reported (ReaderReport S left old new NoJob) was is answered
no_job_said S left old new f was is answered fault failed (inl said) = (with_feed (codes "out of memory"), Memory, no_memory, said.1)
no_job_said S left old new f was is answered fault failed (inr (inl said)) = (with_feed (codes "file fault"), File, no_text (failed said.0), said.1)
no_job_said S left old new f was is answered fault failed (inr (inr said)) =
    let h : OfText S (ReadTurn left) 2000000 old new (λ text. FirstFault (lines_of text) f) = own f _ _ fault said.0 said.1 in
    (with_feed (job_refusal f), JobRefused f, of_text (of_reader S left old new (λ text. NoJob text (with_feed (job_refusal f)) (JobRefused f)) (record { text = h.text; ended = h.ended; so = refused f h.so })), said.2)

-- what is reported where there is no job is reported
pub job_missing : (S : Type 0) (left : S → Option (List ℕ)) (old new : S) (Report : JobValue → List ℕ → Status → Type 0) (was is : Option (List ℕ)) (answered : Status)
    → Reported (ReaderReport S left old new NoJob) was is answered → Reported (ReaderReport S left old new (JobTextReport Report)) was is answered
job_missing S left old new Report was is answered said = missing S left old new NoJob (JobTextReport Report) (λ text out status why. no_job why) was is answered said

-- and so is what is reported of the job of the text
pub job_found : (S : Type 0) (left : S → Option (List ℕ)) (old new : S) (job : JobValue) (Report : JobValue → List ℕ → Status → Type 0) (was mid is : Option (List ℕ)) (answered : Status)
    → OfReader S left old new (λ text. JobText (lines_of text) job) → mid ≡ was → Reported (Report job) mid is answered → Reported (ReaderReport S left old new (JobTextReport Report)) was is answered
job_found S left old new job Report was mid is answered h same said =
    found S left old new (λ text. JobText (lines_of text) job) (Report job) (JobTextReport Report) (λ text out status is_job report. of_job job is_job report) was mid is answered h same said

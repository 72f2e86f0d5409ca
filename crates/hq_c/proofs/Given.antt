-- Reports of the bytes that a call was given.
use Rattle.std.proofs.Common.{◌≡◌, ℕ, ◌⊎◌, inl, inr, List, [], ◌++◌, Option, Some, IfSome, refl, sym, ap, ◌∙◌, subst}
use Rattle.hq_job.specs.Value.{JobValue}
use Rattle.hq_jobtext.specs.JobText.{JobText}
use Rattle.hq_text.specs.Lines.{lines_of}
use Rattle.hq_c.specs.Calls.{Answers, OfBytes, IsHandedOut}
use Rattle.hq_c.specs.Calls.OfBytes.{of_text as given, no_memory as out_of_memory}
use Rattle.hq_status.specs.Reports.{ReaderReport, JobTextReport, Reported, Said}
use Rattle.hq_status.specs.Reports.ReaderReport.{of_text, no_text, no_memory}
use Rattle.hq_status.specs.Reports.JobTextReport.{of_job, no_job}
use Rattle.hq_status.specs.Statuses.{code_of}
use Rattle.hq_status.specs.declared.status.Status.{Status}
use Rattle.hq_status.specs.declared.status.Status.TheVariants.{File}

-- The report of a reader that had these bytes left is the report of these bytes, or that it failed.
pub of_bytes : (S : Type 0) (left : S → Option (List ℕ)) (old new : S) (bytes : List ℕ) (Report : List ℕ → List ℕ → Status → Type 0) (out : List ℕ) (status : Status)
    → left old ≡ Some bytes → ReaderReport S left old new Report out status → OfBytes Report bytes out status ⊎ (status ≡ File)
of_bytes S left old new bytes Report out status is (of_text h) = inl (given (subst (λ text. Report text out status) (sym (subst (λ o. IfSome o (λ known. known ≡ h.text)) is h.known)) h.so))
of_bytes S left old new bytes Report out status is (no_text why) = inr refl
of_bytes S left old new bytes Report out status is no_memory = inl out_of_memory

of_second : (bytes : List ℕ) (Report : JobValue → List ℕ → List ℕ → Status → Type 0) (job : JobValue) (text out : List ℕ) (status : Status) → JobText (lines_of text) job → OfBytes (Report job) bytes out status ⊎ (status ≡ File)
    → JobTextReport (λ job. OfBytes (Report job) bytes) text out status ⊎ (status ≡ File)
of_second bytes Report job text out status is_text (inl h) = inl (of_job job is_text h)
of_second bytes Report job text out status is_text (inr why) = inr why

-- so it is of a job's text with a second text behind it
pub of_both : (S : Type 0) (left : S → Option (List ℕ)) (old new : S) (bytes : List ℕ) (Report : JobValue → List ℕ → List ℕ → Status → Type 0) (text out : List ℕ) (status : Status)
    → left old ≡ Some bytes → JobTextReport (λ job. ReaderReport S left old new (Report job)) text out status → JobTextReport (λ job. OfBytes (Report job) bytes) text out status ⊎ (status ≡ File)
of_both S left old new bytes Report text out status is (of_job job is_text report) = of_second bytes Report job text out status is_text (of_bytes S left old new bytes (Report job) out status is report)
of_both S left old new bytes Report text out status is (no_job why) = inl (no_job why)

-- What was written to a vector that was empty, and handed out, is the answer.
answers : (Report : List ℕ → Status → Type 0) (was written text old new : List ℕ) (whole : ℕ) (status : Status) (code : ℕ) (out : List ℕ) (said : Status)
    → was ≡ [] → text ≡ written → Report out said ⊎ (said ≡ File) → Said (Some was) (Some written) out said status → IsHandedOut text old new whole → code ≡ code_of status → Answers Report old new whole code
answers Report was written text old new whole status code out said empty same (inr why) (inl h) handed is = inr (is ∙ ap code_of (h.0 ∙ why))
answers Report was written text old new whole status code out said empty same (inr why) (inr failed) handed is = inr (is ∙ ap code_of failed)
answers Report was written text old new whole status code out said empty same (inl report) (inr failed) handed is = inr (is ∙ ap code_of failed)
answers Report was written text old new whole status code out said empty same (inl report) (inl h) handed is =
    inl (out, said, report, is ∙ ap code_of h.0, subst (λ t. IsHandedOut t old new whole) (same ∙ h.1 ∙ ap (λ w. w ++ out) empty) handed)

-- The call of one text.
pub answers_one : (S : Type 0) (left : S → Option (List ℕ)) (old new : S) (bytes : List ℕ) (Report : List ℕ → List ℕ → Status → Type 0) (was written text room after : List ℕ) (whole : ℕ) (status : Status) (code : ℕ)
    → left old ≡ Some bytes → was ≡ [] → text ≡ written → Reported (ReaderReport S left old new Report) (Some was) (Some written) status → IsHandedOut text room after whole → code ≡ code_of status
    → Answers (OfBytes Report bytes) room after whole code
answers_one S left old new bytes Report was written text room after whole status code is empty same said handed code_is =
    answers (OfBytes Report bytes) was written text room after whole status code said.0 said.1 empty same (of_bytes S left old new bytes Report said.0 said.1 is said.2) said.3 handed code_is

-- what is written of a second text is the report of its bytes
second : (Report : JobValue → List ℕ → List ℕ → Status → Type 0) (bytes bytes2 out : List ℕ) (status : Status) → JobTextReport (λ job. OfBytes (Report job) bytes2) bytes out status ⊎ (status ≡ File)
    → OfBytes (JobTextReport (λ job. OfBytes (Report job) bytes2)) bytes out status ⊎ (status ≡ File)
second Report bytes bytes2 out status (inl h) = inl (given h)
second Report bytes bytes2 out status (inr why) = inr why

both : (T : Type 0) (left2 : T → Option (List ℕ)) (old2 new2 : T) (bytes bytes2 : List ℕ) (Report : JobValue → List ℕ → List ℕ → Status → Type 0) (out : List ℕ) (status : Status) → left2 old2 ≡ Some bytes2
    → OfBytes (JobTextReport (λ job. ReaderReport T left2 old2 new2 (Report job))) bytes out status ⊎ (status ≡ File) → OfBytes (JobTextReport (λ job. OfBytes (Report job) bytes2)) bytes out status ⊎ (status ≡ File)
both T left2 old2 new2 bytes bytes2 Report out status is2 (inl (given report)) = second Report bytes bytes2 out status (of_both T left2 old2 new2 bytes2 Report bytes out status is2 report)
both T left2 old2 new2 bytes bytes2 Report out status is2 (inl out_of_memory) = inl out_of_memory
both T left2 old2 new2 bytes bytes2 Report out status is2 (inr why) = inr why

-- The call of two.
pub answers_both : (S : Type 0) (left : S → Option (List ℕ)) (old new : S) (bytes : List ℕ) (T : Type 0) (left2 : T → Option (List ℕ)) (old2 new2 : T) (bytes2 : List ℕ) (Report : JobValue → List ℕ → List ℕ → Status → Type 0)
    (was written text room after : List ℕ) (whole : ℕ) (status : Status) (code : ℕ)
    → left old ≡ Some bytes → left2 old2 ≡ Some bytes2 → was ≡ [] → text ≡ written → Reported (ReaderReport S left old new (JobTextReport (λ job. ReaderReport T left2 old2 new2 (Report job)))) (Some was) (Some written) status → IsHandedOut text room after whole → code ≡ code_of status
    → Answers (OfBytes (JobTextReport (λ job. OfBytes (Report job) bytes2)) bytes) room after whole code
answers_both S left old new bytes T left2 old2 new2 bytes2 Report was written text room after whole status code is is2 empty same said handed code_is =
    answers (OfBytes (JobTextReport (λ job. OfBytes (Report job) bytes2)) bytes) was written text room after whole status code said.0 said.1 empty same
    (both T left2 old2 new2 bytes bytes2 Report said.0 said.1 is2 (of_bytes S left old new bytes (JobTextReport (λ job. ReaderReport T left2 old2 new2 (Report job))) said.0 said.1 is said.2)) said.3 handed code_is

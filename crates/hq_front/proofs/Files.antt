-- What is reported of a reader is reported of its file.
use Rattle.std.proofs.Common.{◌≡◌, ℕ, inl, inr, List, Option, codes, subst}
use Rattle.hq_job.specs.Value.{JobValue}
use Rattle.hq_status.specs.Reports.{JobTextReport, ReaderReport, Reported, Said, with_feed}
use Rattle.hq_status.specs.Reports.JobTextReport.{of_job, no_job}
use Rattle.hq_status.specs.Reports.ReaderReport.{of_text, no_text, no_memory}
use Rattle.hq_status.specs.declared.status.Status.{Status}
use Rattle.hq_status.specs.declared.status.Status.TheVariants.{Memory, Unopened}
use Rattle.hq_front.specs.Files.{FileReport, SaysUnopened}
use Rattle.hq_front.specs.Files.FileReport.{of_text as of_file, not_opened, no_text as no_file, no_memory as no_room}

pub of_reader : (S : Type 0) (left : S → Option (List ℕ)) (a b : S) (Part Report : List ℕ → List ℕ → Status → Type 0) → ((text out : List ℕ) (status : Status) → Part text out status → Report text out status) → (out : List ℕ) (status : Status)
    → ReaderReport S left a b Part out status → FileReport Report out status
of_reader S left a b Part Report lift out status (of_text h) = of_file h.text (lift h.text out status h.so)
of_reader S left a b Part Report lift out status (no_text why) = no_file
of_reader S left a b Part Report lift out status no_memory = no_room

pub of_jobs : (Part Report : JobValue → List ℕ → Status → Type 0) → ((job : JobValue) (out : List ℕ) (status : Status) → Part job out status → Report job out status) → (text out : List ℕ) (status : Status)
    → JobTextReport Part text out status → JobTextReport Report text out status
of_jobs Part Report lift text out status (of_job job is part) = of_job job is (lift job out status part)
of_jobs Part Report lift text out status (no_job why) = no_job why

pub file_reported : (S : Type 0) (left : S → Option (List ℕ)) (a b : S) (Part Report : List ℕ → List ℕ → Status → Type 0) → ((text out : List ℕ) (status : Status) → Part text out status → Report text out status) → (was mid is : Option (List ℕ)) (answered : Status)
    → mid ≡ was → Reported (ReaderReport S left a b Part) mid is answered → Reported (FileReport Report) was is answered
file_reported S left a b Part Report lift was mid is answered same said =
    (said.0, said.1, of_reader S left a b Part Report lift said.0 said.1 said.2, subst (λ o. Said o is said.0 said.1 answered) same said.3)

pub unopened : (Report : List ℕ → List ℕ → Status → Type 0) (was is : Option (List ℕ)) (answered : Status) → SaysUnopened was is answered → Reported (FileReport Report) was is answered
unopened Report was is answered (inl said) = (with_feed (codes "file fault"), Unopened, not_opened, said)
unopened Report was is answered (inr said) = (with_feed (codes "out of memory"), Memory, no_room, said)

-- What the commands write.
use Rattle.std.specs.Prelude.{◌≡◌, ℕ, ◌⊎◌, List, [], ◌∷◌, ◌++◌, Option, IfSome, codes}
use Rattle.std.specs.Io.KnownBytes.{Appends}
use Rattle.hq_text.specs.Lines.{lines_of}
use Rattle.hq_text.specs.Turns.{Ends, Fails, Passes, ReadTurn}
use Rattle.hq_text.specs.declared.take.TheConstants.{TURNS}
use Rattle.hq_jobtext.specs.JobText.{JobText, FirstFault}
use Rattle.hq_job.specs.Value.{JobValue}
use Rattle.hq_jobtext.specs.declared.fault.JobFault.{JobFault}
use Rattle.hq_tables.specs.declared.fault.Reason.TheVariants as reason
use Rattle.hq_report.specs.Texts.{job_refusal}
use Rattle.hq_status.specs.declared.status.Status.{Status}
use Rattle.hq_status.specs.declared.status.Status.TheVariants.{JobRefused, Memory, File}

-- a text with a line feed behind it
abbrev pub with_feed : List ℕ → List ℕ
with_feed text = text ++ 10 ∷ []

-- The text was written behind what the writer held, and the status answered; or the writer failed.
abbrev pub Said : Option (List ℕ) → Option (List ℕ) → List ℕ → Status → Status → Type 0
Said old new text status answered = ((answered ≡ status) × Appends old new text) ⊎ (answered ≡ File)

-- What the report asks for was written, and its status answered; or the writer failed.
abbrev pub Reported : (List ℕ → Status → Type 0) → Option (List ℕ) → Option (List ℕ) → Status → Type 0
Reported Report old new answered = (text : List ℕ) × (status : Status) × Report text status
    × Said old new text status answered

-- ---- what was read

-- The reader gave a text up to its end, turn by turn, of which the fact holds. Where it is known what the reader
-- had left, that is the text.
pub record OfReader (S : Type 0) (left : S → Option (List ℕ)) (old new : S) (P : List ℕ → Type 0) : Type 0 where
  pub text : List ℕ
  pub ended : Ends S (ReadTurn left) TURNS old text new
  pub known : IfSome (left old) (λ bytes. bytes ≡ text)
  pub so : P text

-- The reader failed in one of its turns, or so many turns passed, and none was the end.
abbrev pub IsUnread : (S : Type 0) → (S → Option (List ℕ)) → S → S → Type 0
IsUnread S left old new = Fails S (ReadTurn left) TURNS old new ⊎ Passes S (ReadTurn left) TURNS old new

-- What is written of a reader: the report of the text that it gave; or that it failed, where it did; or that memory
-- ran out.
pub data ReaderReport (S : Type 0) (left : S → Option (List ℕ)) (old new : S)
    (Report : List ℕ → List ℕ → Status → Type 0) : List ℕ → Status → Type 0 where
  of_text : {out : List ℕ} {status : Status} → OfReader S left old new (λ text. Report text out status)
      → ReaderReport S left old new Report out status
  no_text : IsUnread S left old new → ReaderReport S left old new Report (with_feed (codes "file fault")) File
  no_memory : ReaderReport S left old new Report (with_feed (codes "out of memory")) Memory

-- Why there is no job: the text has a first fault.
pub data NoJob (text : List ℕ) : List ℕ → Status → Type 0 where
  refused : (fault : JobFault) → FirstFault (lines_of text) fault
      → NoJob text (with_feed (job_refusal fault)) (JobRefused fault)

-- What is written of a text: the report of its job; or why there is none.
pub data JobTextReport (Report : JobValue → List ℕ → Status → Type 0) (text : List ℕ) : List ℕ → Status → Type 0 where
  of_job : {out : List ℕ} {status : Status} (job : JobValue) → JobText (lines_of text) job → Report job out status
      → JobTextReport Report text out status
  no_job : {out : List ℕ} {status : Status} → NoJob text out status → JobTextReport Report text out status

-- ---- what the parts write

-- why there is no job is written, by the reader's fault
abbrev pub SaysNoJob : JobFault → Option (List ℕ) → Option (List ℕ) → Status → Type 0
SaysNoJob fault old new answered =
    ((fault.reason ≡ reason.Memory) × Said old new (with_feed (codes "out of memory")) Memory answered)
    ⊎ (((fault.reason ≡ reason.Read) × Said old new (with_feed (codes "file fault")) File answered)
    ⊎ ((¬ (fault.reason ≡ reason.Memory)) × (¬ (fault.reason ≡ reason.Read))
    × Said old new (with_feed (job_refusal fault)) (JobRefused fault) answered))

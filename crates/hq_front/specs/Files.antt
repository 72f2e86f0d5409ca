-- What is written of files.
use Rattle.std.specs.Prelude.{ℕ, ◌⊎◌, List, Option, codes}
use Rattle.hq_text.specs.Lines.{lines_of}
use Rattle.hq_jobtext.specs.JobText.{JobText}
use Rattle.hq_job.specs.Value.{JobValue}
use Rattle.hq_status.specs.Reports.{Said, with_feed}
use Rattle.hq_status.specs.declared.status.Status.{Status}
use Rattle.hq_status.specs.declared.status.Status.TheVariants.{Memory, Unopened, File}

-- What is written of a file, or of standard input: the report of some text; that it can't be opened; that it can't be
-- read; or that memory ran out. That the text is the file's isn't said.
pub data FileReport (Report : List ℕ → List ℕ → Status → Type 0) : List ℕ → Status → Type 0 where
  of_text : {out : List ℕ} {status : Status} (text : List ℕ) → Report text out status → FileReport Report out status
  not_opened : FileReport Report (with_feed (codes "file fault")) Unopened
  no_text : FileReport Report (with_feed (codes "file fault")) File
  no_memory : FileReport Report (with_feed (codes "out of memory")) Memory

-- that a file can't be opened or made, or that memory ran out, is written
abbrev pub SaysUnopened : Option (List ℕ) → Option (List ℕ) → Status → Type 0
SaysUnopened old new answered = Said old new (with_feed (codes "file fault")) Unopened answered
    ⊎ Said old new (with_feed (codes "out of memory")) Memory answered

-- some text is this job's
abbrev pub HasText : JobValue → Type 0
HasText job = (text : List ℕ) × JobText (lines_of text) job

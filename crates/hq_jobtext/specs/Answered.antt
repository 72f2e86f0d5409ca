-- What taking lines of a text in answers and leaves, and what reading a whole text answers.
use Rattle.std.specs.Prelude.{◌≡◌, ℕ, ◌^◌, ◌<◌, ◌⊎◌, Bool, true, false, List, All, Result, Ok, Err}
use Rattle.hq_signals.specs.Table.{IsUndershot, NeverReachesZero}
use Rattle.hq_lines.specs.Meaning as says
use Rattle.hq_lines.specs.Meaning.{Meaning}
use Rattle.hq_jobtext.specs.declared.fault.JobFault.{JobFault}
use Rattle.hq_tables.specs.declared.fault.Reason.{Reason}
use Rattle.hq_tables.specs.declared.fault.Reason.TheVariants as reason
use Rattle.hq_job.specs.Value.{JobValue}
use Rattle.hq_tables.specs.Tables.{Tables}
use Rattle.hq_job.specs.Ended.{value_of}
use Rattle.hq_tables.specs.AtEnd.{RefusedAtEnd}
use Rattle.hq_jobtext.specs.JobText.{Admits, Refused, IsEnd, at_line}

-- a signal's start is below 2^63
abbrev pub StartFits : Meaning → Type 0
StartFits (says.Signal name handle start) = start < 2 ^ 63
StartFits m = Unit {0}

-- What taking a line in answers: whether it is the end. A line that is refused leaves the tables.
abbrev pub Takes : Result Bool Reason → Tables → List ℕ → Tables → Type 0
Takes (Ok true) old line new = IsEnd line × (new ≡ old)
Takes (Ok false) old line new = Admits old line new
Takes (Err e) old line new = (new ≡ old) × ((e ≡ reason.Memory) ⊎ Refused old line e)

-- out of memory, at line 0
abbrev pub no_memory : JobFault
no_memory = at_line 0 reason.Memory

-- What reading answers, against the job of the text: that job, unless memory ran out.
abbrev pub GivesJob : {X : Type 0} → (X → JobValue) → Result X JobFault → JobValue → Type 0
GivesJob view (Ok j) job = view j ≡ job
GivesJob view (Err f) job = f ≡ no_memory

-- What the end makes of the tables: their job, where no signal is against it.
abbrev pub Finishes : {X : Type 0} → (X → JobValue) → Result X JobFault → ℕ → Tables → Type 0
Finishes view (Ok j) line ts = All (λ s. ¬ IsUndershot s) ts.signals × All (λ s. ¬ NeverReachesZero s) ts.signals
    × (view j ≡ value_of ts)
Finishes view (Err f) line ts = (f ≡ no_memory)
    ⊎ ((why : Reason) × RefusedAtEnd ts.signals why × (f ≡ at_line line why))

-- the reader failed or passed its turns, at line 0
abbrev pub no_text : JobFault
no_text = at_line 0 reason.Read

-- What a fault of a reader's text says: that memory ran out; that the reader failed, the last of these facts; or
-- what is wrong with the text, the first.
abbrev pub FaultOf : JobFault → Type 0 → Type 0 → Type 0
FaultOf f wrong failed = (f ≡ no_memory) ⊎ (((f ≡ no_text) × failed) ⊎ wrong)

-- The same from a reader, unless that failed or passed its turns.
abbrev pub GivesUnlessRead : {X : Type 0} → (X → JobValue) → Result X JobFault → JobValue → Type 0
GivesUnlessRead view (Ok j) job = view j ≡ job
GivesUnlessRead view (Err f) job = (f ≡ no_memory) ⊎ (f ≡ no_text)

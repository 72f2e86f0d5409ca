-- Which lists of lines are a job's text, and which fault of a text is its first.
use Rattle.std.specs.Prelude.{◌≡◌, ℕ, ◌+◌, ◌≢◌, Bool, true, false, List, [], ◌∷◌, ◌++◌, length, codes, All, Some}
use Rattle.std.specs.Prelude.{if◌then◌else◌}
use Rattle.std.specs.List.{list_any}
use Rattle.hq_signals.specs.Table.{IsUndershot, NeverReachesZero}
use Rattle.hq_lines.specs.Bytes.{is_outside}
use Rattle.hq_lines.specs.declared.fault.LineFault.{LineFault}
use Rattle.hq_lines.specs.Meaning as says
use Rattle.hq_lines.specs.Meaning.{Meaning}
use Rattle.hq_lines.specs.Says.{SaysLine}
use Rattle.hq_lines.specs.Order.{line_fault}
use Rattle.hq_tables.specs.declared.fault.Reason.{Reason}
use Rattle.hq_tables.specs.declared.fault.Reason.TheVariants as reason
use Rattle.hq_jobtext.specs.declared.fault.JobFault.{JobFault}
use Rattle.hq_tables.specs.LineFaults.{reason_of}
use Rattle.hq_job.specs.Value.{JobValue}
use Rattle.hq_job.specs.Ended.{value_of}
use Rattle.hq_tables.specs.AtEnd.{RefusedAtEnd}
use Rattle.hq_tables.specs.Tables.{Tables, empty, tests, added, NoneApplies, IsFirst}

-- ---- the first line

-- what the first line says of queues: whether they are rings
pub data SaysVersion : List ℕ → Bool → Type 0 where
  one : SaysVersion (codes "hsaq 1") false
  two : SaysVersion (codes "hsaq 2") true

-- what is wrong with a line that has no place where it stands
abbrev pub misplaced : List ℕ → Reason
misplaced line = if list_any is_outside line then reason.Byte else reason.Word

-- ---- the lines behind it

-- The tables admit the line, which isn't the end, and with what it adds they are these.
pub record Admits (ts : Tables) (line : List ℕ) (new : Tables) : Type 0 where
  pub meaning : Meaning
  pub says_it : SaysLine line meaning
  pub not_end : meaning ≢ says.End
  pub none : NoneApplies (tests ts meaning)
  pub adds : new ≡ added ts meaning

-- So do these lines, one behind another.
abbrev pub AdmitsAll : Tables → List (List ℕ) → Tables → Type 0
AdmitsAll ts [] new = new ≡ ts
AdmitsAll ts (line ∷ lines) new = (mid : Tables) × Admits ts line mid × AdmitsAll mid lines new

-- The line says `end`.
abbrev pub IsEnd : List ℕ → Type 0
IsEnd line = SaysLine line says.End

-- The line is refused: for its own first fault, or for the first that the tables have against what it says.
pub data Refused (ts : Tables) (line : List ℕ) : Reason → Type 0 where
  by_itself : (f : LineFault) → line_fault line ≡ Some f → Refused ts line (reason_of f)
  by_tables : (m : Meaning) (why : Reason) → SaysLine line m → IsFirst (tests ts m) why → Refused ts line why

-- ---- whole texts

-- The text of a job: a first line, lines that are admitted, and the end, with no signal against it.
pub record JobText (lines : List (List ℕ)) (job : JobValue) : Type 0 where
  pub rings : Bool
  pub first : List ℕ
  pub front : List (List ℕ)
  pub last : List ℕ
  pub tables : Tables
  pub whole : lines ≡ first ∷ (front ++ last ∷ [])
  pub version : SaysVersion first rings
  pub admitted : AdmitsAll (empty rings) front tables
  pub ends : IsEnd last
  pub enough : All (λ s. ¬ IsUndershot s) tables.signals
  pub exact : All (λ s. ¬ NeverReachesZero s) tables.signals
  pub job_is : job ≡ value_of tables

-- the fault of a line, counted from 1
abbrev pub at_line : ℕ → Reason → JobFault
at_line line why = record { line = line; reason = why }

-- The first fault of a text.
pub data FirstFault (lines : List (List ℕ)) : JobFault → Type 0 where
  -- no line at all
  nothing : lines ≡ [] → FirstFault lines (at_line 1 reason.NoEnd)
  -- no first line
  headless : (first : List ℕ) (others : List (List ℕ)) → lines ≡ first ∷ others
      → ((rings : Bool) → ¬ SaysVersion first rings) → FirstFault lines (at_line 1 (misplaced first))
  -- a line behind admitted ones is refused
  faulty : (rings : Bool) (first : List ℕ) (front : List (List ℕ)) (line : List ℕ) (rest : List (List ℕ)) (mid : Tables)
      (why : Reason)
      → lines ≡ first ∷ (front ++ line ∷ rest) → SaysVersion first rings → AdmitsAll (empty rings) front mid
      → Refused mid line why → FirstFault lines (at_line (length front + 2) why)
  -- a line behind the end
  behind : (rings : Bool) (first : List ℕ) (front : List (List ℕ)) (last more : List ℕ) (rest : List (List ℕ))
      (mid : Tables)
      → lines ≡ first ∷ (front ++ last ∷ more ∷ rest) → SaysVersion first rings → AdmitsAll (empty rings) front mid
      → IsEnd last → FirstFault lines (at_line (length front + 3) (misplaced more))
  -- no end
  endless : (rings : Bool) (first : List ℕ) (front : List (List ℕ)) (mid : Tables)
      → lines ≡ first ∷ front → SaysVersion first rings → AdmitsAll (empty rings) front mid
      → FirstFault lines (at_line (length front + 2) reason.NoEnd)
  -- the end, with a signal against it
  at_end : (rings : Bool) (first : List ℕ) (front : List (List ℕ)) (last : List ℕ) (mid : Tables) (why : Reason)
      → lines ≡ first ∷ (front ++ last ∷ []) → SaysVersion first rings → AdmitsAll (empty rings) front mid → IsEnd last
      → RefusedAtEnd mid.signals why → FirstFault lines (at_line (length front + 2) why)

-- the laws

-- A text is one job's.
abbrev pub OneJob : Type 0
OneJob = (lines : List (List ℕ)) (a b : JobValue) → JobText lines a → JobText lines b → a ≡ b

-- A job's text has no fault.
abbrev pub FaultlessWhereJob : Type 0
FaultlessWhereJob = (lines : List (List ℕ)) (job : JobValue) (f : JobFault) → JobText lines job → FirstFault lines f → ⊥

-- A text has one first fault.
abbrev pub OneFirstFault : Type 0
OneFirstFault = (lines : List (List ℕ)) (f g : JobFault) → FirstFault lines f → FirstFault lines g → f ≡ g

-- The lines of a text as far as they came.
use Rattle.std.specs.Prelude.{◌≡◌, ℕ, ◌+◌, ◌⊎◌, Bool, List, [], ◌∷◌, ◌++◌, length, Result, Ok, Err}
use Rattle.hq_jobtext.specs.declared.draft.Place.{Place}
use Rattle.hq_jobtext.specs.declared.draft.Place.TheVariants as place
use Rattle.hq_jobtext.specs.declared.fault.JobFault.{JobFault}
use Rattle.hq_tables.specs.declared.fault.Reason.{Reason}
use Rattle.hq_tables.specs.declared.fault.Reason.TheVariants as reason
use Rattle.hq_job.specs.Value.{JobValue}
use Rattle.hq_tables.specs.Tables.{Tables, empty}
use Rattle.hq_jobtext.specs.JobText.{SaysVersion, AdmitsAll, IsEnd, JobText, FirstFault, at_line}
use Rattle.hq_jobtext.specs.Answered.{no_memory}

-- a first line, and lines that are admitted and leave these tables
pub record Begun (lines : List (List ℕ)) (ts : Tables) : Type 0 where
  pub rings : Bool
  pub first : List ℕ
  pub front : List (List ℕ)
  pub whole : lines ≡ first ∷ front
  pub version : SaysVersion first rings
  pub admitted : AdmitsAll (empty rings) front ts

-- the same, and then the end
pub record Closed (lines : List (List ℕ)) (ts : Tables) : Type 0 where
  pub front : List (List ℕ)
  pub last : List ℕ
  pub whole : lines ≡ front ++ last ∷ []
  pub begun : Begun front ts
  pub ends : IsEnd last

-- These lines lead to this place, and leave these tables.
abbrev pub Leads : Place → List (List ℕ) → Tables → Type 0
Leads place.Head lines ts = lines ≡ []
Leads place.Content lines ts = Begun lines ts
Leads place.Behind lines ts = Closed lines ts

-- where the next line stands, the tables, and how many lines there were
pub record SoFar : Type 0 where
  pub place : Place
  pub tables : Tables
  pub count : ℕ

-- these lines were taken in
pub record HasTaken (lines : List (List ℕ)) (s : SoFar) : Type 0 where
  pub counted : s.count ≡ length lines
  pub leads : Leads s.place lines s.tables

-- a text of these lines has this first fault, unless memory ran out
abbrev pub HasFault : List (List ℕ) → JobFault → Type 0
HasFault lines f = (f ≡ no_memory) ⊎ FirstFault lines f

-- What a line answers at a place: where the next one stands, or why it is refused, whatever lines lead there and
-- follow it.
abbrev pub Steps : Result Place Reason → Place → Tables → List ℕ → Tables → Type 0
Steps (Ok next) here ts line new = (lines : List (List ℕ)) → Leads here lines ts → Leads next (lines ++ line ∷ []) new
Steps (Err e) here ts line new = (e ≡ reason.Memory)
    ⊎ ((lines more : List (List ℕ)) → Leads here lines ts
    → FirstFault (lines ++ line ∷ more) (at_line (length lines + 1) e))

-- What taking in all of these lines answers, behind those that were taken in.
abbrev pub TakesAll : Result (Unit {0}) JobFault → SoFar → List (List ℕ) → SoFar → Type 0
TakesAll (Ok u) old text new = (lines : List (List ℕ)) → HasTaken lines old → HasTaken (lines ++ text) new
TakesAll (Err f) old text new = (lines more : List (List ℕ)) → HasTaken lines old → HasFault (lines ++ (text ++ more)) f

-- What reading a text of these lines answers: its job, or its first fault, unless memory ran out.
abbrev pub ReadOf : {X : Type 0} → (X → JobValue) → Result X JobFault → List (List ℕ) → Type 0
ReadOf view (Ok j) lines = JobText lines (view j)
ReadOf view (Err f) lines = HasFault lines f

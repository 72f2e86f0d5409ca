-- The table of a job's signals, in order of opening: what each starts with, how many packets decrement it, and
-- whether a barrier packet waits on it. That a signal has no more decrementers than its start, and exactly as many
-- where a barrier waits on it, is this project's own rule.
use Rattle.std.specs.Prelude.{ℕ, ◌+◌, ◌<◌, Bool, true, false, List, ◌∷◌, ◌++◌, map, sum_by, All, Contains, ◌≡◌}
use Rattle.std.specs.Prelude.{◌==◌, IsTrue, IsNone, Option, Some, ◌↔◌, if◌then◌else◌}

-- a signal of the table
pub record OpenSignal : Type 0 where
  pub handle : ℕ
  pub start : ℕ
  pub decrementers : ℕ
  pub waited : Bool

-- a signal that was just opened
abbrev pub opened : ℕ → ℕ → OpenSignal
opened handle start = record { handle = handle; start = start; decrementers = 0; waited = false }

-- the handles, in order of opening
abbrev pub handles : List OpenSignal → List ℕ
handles table = map (λ s. s.handle) table

-- the starts, in order of opening
abbrev pub starts : List OpenSignal → List ℕ
starts table = map (λ s. s.start) table

-- a signal with the handle is open
abbrev pub IsOpen : List OpenSignal → ℕ → Type 0
IsOpen table handle = Contains (handles table) handle

-- how many decrementers were noted, over all signals
abbrev pub noted : List OpenSignal → ℕ
noted table = sum_by (λ s. s.decrementers) table

-- the table with a change at the signal that has the handle, and at no other
abbrev pub changed_at : ℕ → (OpenSignal → OpenSignal) → List OpenSignal → List OpenSignal
changed_at handle change table = map (λ s. if s.handle == handle then change s else s) table

-- the signal with one decrementer more
abbrev pub with_decrementer : OpenSignal → OpenSignal
with_decrementer s = record s { decrementers = s.decrementers + 1 }

-- the signal with a barrier that waits on it
abbrev pub with_wait : OpenSignal → OpenSignal
with_wait s = record s { waited = true }

-- more packets decrement the signal than it starts with
abbrev pub IsUndershot : OpenSignal → Type 0
IsUndershot s = s.start < s.decrementers

-- a barrier waits on the signal, and fewer packets decrement it than it starts with
abbrev pub NeverReachesZero : OpenSignal → Type 0
NeverReachesZero s = IsTrue s.waited × (s.decrementers < s.start)

-- the first signal in order of opening of which the fact holds has the handle
pub record IsFirst (Fact : OpenSignal → Type 0) (table : List OpenSignal) (handle : ℕ) : Type 0 where
  pub before : List OpenSignal
  pub signal : OpenSignal
  pub after : List OpenSignal
  pub in_order : table ≡ before ++ signal ∷ after
  pub holds : Fact signal
  pub named : signal.handle ≡ handle
  pub not_before : All (λ s. ¬ (Fact s)) before

-- the answer is the handle of the first signal of which the fact holds, or none where it holds of no signal
pub record Finds (Fact : OpenSignal → Type 0) (table : List OpenSignal) (answer : Option ℕ) : Type 0 where
  pub none : IsNone answer ↔ All (λ s. ¬ (Fact s)) table
  pub first : (handle : ℕ) → (answer ≡ Some handle) ↔ IsFirst Fact table handle

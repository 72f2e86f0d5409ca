-- What a function returned, against what the tests give, unless memory ran out.
use Rattle.std.specs.Prelude.{◌≡◌, ℕ, ◌+◌, ◌⊎◌, List, length, Result, Ok, Err}
use Rattle.hq_text.specs.LineByLine.{AdmitsAll, FirstRefused}
use Rattle.hq_events.specs.declared.event.Event.{Event}
use Rattle.hq_timeline.specs.declared.fault.TimeReason.{TimeReason}
use Rattle.hq_timeline.specs.declared.fault.TimeReason.TheVariants as reason
use Rattle.hq_timeline.specs.declared.fault.TimeFault.{TimeFault}
use Rattle.hq_timeline.specs.Grammar.{TimeText}
use Rattle.hq_timeline.specs.TextFaults.{at_line, FirstFault}
use Rattle.hq_timeline.specs.TextStates.{State, added}

-- the fault is what the tests give, where it isn't that memory ran out
abbrev pub Fails : {Y : Type 0} → TimeReason → Result Y TimeReason → Type 0
Fails reason.Word read = read ≡ Err reason.Word
Fails reason.Number read = read ≡ Err reason.Number
Fails reason.NoEnd read = read ≡ Err reason.NoEnd
Fails reason.Memory read = Unit {0}

-- the value, seen by view, or the fault
abbrev pub Gives : {X Y : Type 0} → (X → Y) → Result X TimeReason → Result Y TimeReason → Type 0
Gives view (Ok x) read = read ≡ Ok (view x)
Gives view (Err e) read = Fails e read

-- out of memory, at line 0
abbrev pub no_memory : TimeFault
no_memory = at_line 0 reason.Memory

-- What parsing answers, against the journal of the text: that one, unless memory ran out.
abbrev pub GivesJournal : Result (List Event) TimeFault → List Event → Type 0
GivesJournal (Ok journal) events = journal ≡ events
GivesJournal (Err f) events = f ≡ no_memory

-- What taking in all of these lines answers, behind so many lines that left the old state: how many there are then,
-- or the first fault.
abbrev pub TakesAll : Result ℕ TimeFault → ℕ → List (List ℕ) → State → State → Type 0
TakesAll (Ok n) before lines old new = (n ≡ before + length lines) × AdmitsAll added old lines new
TakesAll (Err f) before lines old new = (f ≡ no_memory) ⊎ FirstRefused added old lines before f.line f.reason

-- a text of these lines has this first fault, unless memory ran out
abbrev pub HasFault : List (List ℕ) → TimeFault → Type 0
HasFault lines f = (f ≡ no_memory) ⊎ FirstFault lines f

-- What reading a text of these lines answers: its journal, or its first fault, unless memory ran out.
abbrev pub ReadOf : Result (List Event) TimeFault → List (List ℕ) → Type 0
ReadOf (Ok journal) lines = TimeText lines journal
ReadOf (Err f) lines = HasFault lines f

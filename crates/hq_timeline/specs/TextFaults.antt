-- The first faulty line of a text, by the grammar.
use Rattle.std.specs.Prelude.{◌≡◌, ℕ, ◌+◌, ◌⊎◌, List, [], ◌∷◌, ◌++◌, length, map}
use Rattle.std.specs.List.{AllByRecursion}
use Rattle.std.specs.Fmt.{decimal}
use Rattle.hq_text.specs.Ahead.{IsSmall}
use Rattle.hq_text.specs.Lines.{words_of}
use Rattle.hq_events.specs.declared.event.Event.{Event}
use Rattle.hq_timeline.specs.declared.fault.TimeReason.{TimeReason}
use Rattle.hq_timeline.specs.declared.fault.TimeReason.TheVariants as reason
use Rattle.hq_timeline.specs.declared.fault.TimeFault.{TimeFault}
use Rattle.hq_timeline.specs.declared.draft.Stage.{Stage}
use Rattle.hq_timeline.specs.declared.draft.Stage.TheVariants as stage
use Rattle.hq_timeline.specs.Grammar.{event_words, EventFits, head_words, end_words, journal_words, TimeText}

-- ---- the place of a line

-- These lines begin a text, and what may come next is the head, an event or the end, or nothing.
abbrev pub Begins : Stage → List (List (List ℕ)) → Type 0
Begins stage.Head lines = lines ≡ []
Begins stage.Events lines = (events : List Event) × (lines ≡ head_words ∷ map event_words events)
    × AllByRecursion EventFits events
Begins stage.Ended lines = (events : List Event) × (lines ≡ journal_words events) × AllByRecursion EventFits events

-- ---- a faulty line

-- the first of the words, if there is one
abbrev pub first_word : List (List ℕ) → List ℕ
first_word [] = []
first_word (word ∷ words) = word

-- the words behind the first
abbrev pub operands : List (List ℕ) → List (List ℕ)
operands [] = []
operands (word ∷ words) = words

-- the word is a number up to 4294967295
pub record IsSmallNumber (word : List ℕ) : Type 0 where
  pub number : ℕ
  pub spelled : word ≡ decimal number
  pub small : IsSmall number

-- the words have the name of an event and the count of its words, whatever stands in the places of its numbers
pub record HasEventForm (words : List (List ℕ)) : Type 0 where
  pub event : Event
  pub named : first_word words ≡ first_word (event_words event)
  pub counted : length words ≡ length (event_words event)

-- the words have a form that may stand in this place
abbrev pub HasForm : Stage → List (List ℕ) → Type 0
HasForm stage.Head words = words ≡ head_words
HasForm stage.Events words = HasEventForm words ⊎ (words ≡ end_words)
HasForm stage.Ended words = ⊥

-- The words are refused in this place: they have no form that may stand there; or they have an event's, but not all
-- behind its name are numbers up to 4294967295.
abbrev pub Refused : Stage → List (List ℕ) → TimeReason → Type 0
Refused place words reason.Word = ¬ HasForm place words
Refused place words reason.Number = (place ≡ stage.Events) × HasEventForm words
    × (AllByRecursion IsSmallNumber (operands words) → ⊥)
Refused place words reason.NoEnd = ⊥
Refused place words reason.Memory = ⊥

-- ---- the first fault

-- the fault of a line, counted from 1
abbrev pub at_line : ℕ → TimeReason → TimeFault
at_line line why = record { line = line; reason = why }

-- The first fault of a text: of a line that is refused behind lines that begin a text, or that there is no end,
-- told of the line behind the last.
pub data FirstFault (lines : List (List ℕ)) : TimeFault → Type 0 where
  faulty : (front : List (List ℕ)) (line : List ℕ) (rest : List (List ℕ)) (place : Stage) (why : TimeReason)
      → lines ≡ front ++ line ∷ rest → Begins place (map words_of front) → Refused place (words_of line) why
      → FirstFault lines (at_line (length front + 1) why)
  endless : (place : Stage) → Begins place (map words_of lines) → (place ≡ stage.Ended → ⊥)
      → FirstFault lines (at_line (length lines + 1) reason.NoEnd)

-- ---- the laws

-- A text is one journal's.
abbrev pub OneJournal : Type 0
OneJournal = (lines : List (List ℕ)) (a b : List Event) → TimeText lines a → TimeText lines b → a ≡ b

-- A journal's text has no fault.
abbrev pub FaultlessWhereJournal : Type 0
FaultlessWhereJournal = (lines : List (List ℕ)) (events : List Event) (f : TimeFault) → TimeText lines events
    → FirstFault lines f → ⊥

-- A text has one first fault.
abbrev pub OneFirstFault : Type 0
OneFirstFault = (lines : List (List ℕ)) (f g : TimeFault) → FirstFault lines f → FirstFault lines g → f ≡ g

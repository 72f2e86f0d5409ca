-- What a text is found to begin with, in one pass over its bytes.
use Rattle.std.specs.Prelude.{◌≡◌, ℕ, ◌+◌, ◌≤◌, List, ◌++◌, length}
use Rattle.hq_text.specs.Ahead.{NumberAhead}
use Rattle.hq_text.specs.LineByLine.{AdmitsAll}
use Rattle.hq_text.specs.Lines.{lines_of}
use Rattle.hq_text.specs.Printed.{line_text}
use Rattle.hq_events.specs.declared.event.Event.{Event}
use Rattle.hq_timeline.specs.Grammar.{event_words, EventFits}
use Rattle.hq_timeline.specs.TextStates.{State, added}

-- the text is two numbers, a space between them, a line feed, and the rest
pub record BothNumbers (text : List ℕ) (m n : ℕ) (rest : List ℕ) : Type 0 where
  pub mid : List ℕ
  pub first : NumberAhead text m 32 mid
  pub second : NumberAhead mid n 10 rest

-- the text is the line of an event, and the rest
pub record EventAhead (text : List ℕ) (event : Event) (rest : List ℕ) : Type 0 where
  pub is : text ≡ line_text (event_words event) ++ rest
  pub fits : EventFits event

-- So many lines of the text were taken in, and the rest is left.
pub record TakenFrom (text rest : List ℕ) (count : ℕ) (old new : State) : Type 0 where
  pub front : List (List ℕ)
  pub whole : lines_of text ≡ front ++ lines_of rest
  pub counted : length front ≡ count
  pub admitted : AdmitsAll added old front new
  pub short : count + length rest ≤ length text

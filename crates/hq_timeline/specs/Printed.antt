-- The text that a journal prints.
use Rattle.std.specs.Prelude.{ℕ, List}
use Rattle.std.specs.List.{AllByRecursion}
use Rattle.hq_text.specs.Lines.{lines_of}
use Rattle.hq_text.specs.Printed.{lines_text}
use Rattle.hq_events.specs.declared.event.Event.{Event}
use Rattle.hq_timeline.specs.Grammar.{EventFits, journal_words, TimeText}

-- The text of the journal of these events.
abbrev pub text_of : List Event → List ℕ
text_of events = lines_text (journal_words events)

-- What a journal prints is its text: the numbers of a journal's events have 32 bits.
abbrev pub ReadBack : Type 0
ReadBack = (events : List Event) → AllByRecursion EventFits events → TimeText (lines_of (text_of events)) events

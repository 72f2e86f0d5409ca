-- The text of a journal: what its lines spell.
use Rattle.std.specs.Prelude.{◌≡◌, ℕ, List, [], ◌∷◌, ◌++◌, map}
use Rattle.std.specs.List.{AllByRecursion}
use Rattle.std.specs.Fmt.{decimal}
use Rattle.hq_text.specs.Ahead.{IsSmall}
use Rattle.hq_text.specs.Lines.{words_of}
use Rattle.hq_events.specs.declared.event.Event.{Event}
use Rattle.hq_events.specs.declared.event.Event.TheVariants as event
use Rattle.hq_timeline.specs.Names as word

-- the words of an event's line: its name and its numbers
abbrev pub event_words : Event → List (List ℕ)
event_words event.Submit = word.submit_word ∷ []
event_words (event.Launch queue) = word.launch_word ∷ decimal queue ∷ []
event_words (event.Observe packet slot) = word.observe_word ∷ decimal packet ∷ decimal slot ∷ []
event_words (event.Enter packet) = word.enter_word ∷ decimal packet ∷ []
event_words (event.Fetch packet) = word.fetch_word ∷ decimal packet ∷ []
event_words (event.Deliver packet) = word.deliver_word ∷ decimal packet ∷ []
event_words (event.Complete packet) = word.complete_word ∷ decimal packet ∷ []
event_words event.Rest = word.rest_word ∷ []
event_words (event.Read packet entry) = word.read_word ∷ decimal packet ∷ decimal entry ∷ []
event_words (event.Store packet entry) = word.store_word ∷ decimal packet ∷ decimal entry ∷ []
event_words (event.Finish packet) = word.finish_word ∷ decimal packet ∷ []
event_words (event.PushLane packet byte) = word.push_lane_word ∷ decimal packet ∷ decimal byte ∷ []
event_words (event.PushAgent agent byte) = word.push_agent_word ∷ decimal agent ∷ decimal byte ∷ []
event_words (event.FillLane packet byte) = word.fill_lane_word ∷ decimal packet ∷ decimal byte ∷ []
event_words (event.FillAgent agent byte) = word.fill_agent_word ∷ decimal agent ∷ decimal byte ∷ []
event_words (event.DropLane packet byte) = word.drop_lane_word ∷ decimal packet ∷ decimal byte ∷ []
event_words (event.DropAgent agent byte) = word.drop_agent_word ∷ decimal agent ∷ decimal byte ∷ []

-- the event has a line: its numbers are small
abbrev pub EventFits : Event → Type 0
EventFits event.Submit = Unit {0}
EventFits (event.Launch queue) = IsSmall queue
EventFits (event.Observe packet slot) = IsSmall packet × IsSmall slot
EventFits (event.Enter packet) = IsSmall packet
EventFits (event.Fetch packet) = IsSmall packet
EventFits (event.Deliver packet) = IsSmall packet
EventFits (event.Complete packet) = IsSmall packet
EventFits event.Rest = Unit {0}
EventFits (event.Read packet entry) = IsSmall packet × IsSmall entry
EventFits (event.Store packet entry) = IsSmall packet × IsSmall entry
EventFits (event.Finish packet) = IsSmall packet
EventFits (event.PushLane packet byte) = IsSmall packet × IsSmall byte
EventFits (event.PushAgent agent byte) = IsSmall agent × IsSmall byte
EventFits (event.FillLane packet byte) = IsSmall packet × IsSmall byte
EventFits (event.FillAgent agent byte) = IsSmall agent × IsSmall byte
EventFits (event.DropLane packet byte) = IsSmall packet × IsSmall byte
EventFits (event.DropAgent agent byte) = IsSmall agent × IsSmall byte

-- The words of a line say the event.
pub record Says (words : List (List ℕ)) (event : Event) : Type 0 where
  pub spelled : words ≡ event_words event
  pub fits : EventFits event

-- `hsat 1`
abbrev pub head_words : List (List ℕ)
head_words = word.head_word ∷ word.version_word ∷ []

-- `end`
abbrev pub end_words : List (List ℕ)
end_words = word.end_word ∷ []

-- the words of all lines: the head, an event a line, and the end
abbrev pub journal_words : List Event → List (List (List ℕ))
journal_words events = head_words ∷ (map event_words events ++ end_words ∷ [])

-- The lines are the text of the journal of these events.
pub record TimeText (lines : List (List ℕ)) (events : List Event) : Type 0 where
  pub spelled : map words_of lines ≡ journal_words events
  pub fits : AllByRecursion EventFits events

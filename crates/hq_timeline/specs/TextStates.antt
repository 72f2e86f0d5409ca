-- What the lines of a text leave, taken in one behind another.
use Rattle.std.specs.Prelude.{ℕ, Bool, true, false, List, [], ◌∷◌, ◌++◌, Option, Some, None, Result, Ok, Err}
use Rattle.std.specs.Prelude.{if◌then◌else◌}
use Rattle.hq_text.specs.InTurn.{◌>>=◌}
use Rattle.hq_events.specs.declared.event.Event.{Event}
use Rattle.hq_timeline.specs.declared.fault.TimeReason.{TimeReason}
use Rattle.hq_timeline.specs.declared.fault.TimeReason.TheVariants as reason
use Rattle.hq_timeline.specs.declared.draft.Stage.{Stage}
use Rattle.hq_timeline.specs.declared.draft.Stage.TheVariants as stage
use Rattle.hq_timeline.specs.LineTests.{event_said, is_head, is_last}

-- What the lines so far leave: what may come next, and the events that were read.
pub record State : Type 0 where
  pub stage : Stage
  pub events : List Event

-- before the first line
abbrev pub start : State
start = record { stage = stage.Head; events = [] }

-- behind the first line
abbrev pub with_head : State → State
with_head s = record { stage = stage.Events; events = s.events }

-- with one more event
abbrev pub with_event : State → Event → State
with_event s event = record { stage = stage.Events; events = s.events ++ event ∷ [] }

-- behind the end
abbrev pub with_end : State → State
with_end s = record { stage = stage.Ended; events = s.events }

-- nothing more may come
abbrev pub is_end : Stage → Bool
is_end stage.Head = false
is_end stage.Events = false
is_end stage.Ended = true

-- the end was read
abbrev pub is_ended : State → Bool
is_ended s = is_end s.stage

-- what is wrong with a text that ends so
abbrev pub unended : State → Option TimeReason
unended s = if is_ended s then None else Some reason.NoEnd

-- ---- what a line leaves, or the first test that it fails

-- the first line
unfoldable pub add_head : State → List (List ℕ) → Result State TimeReason
add_head s words = if is_head words then Ok (with_head s) else Err reason.Word

-- an event
unfoldable pub add_event : State → List (List ℕ) → Result State TimeReason
add_event s words = event_said words >>= λ event. Ok (with_event s event)

-- an event or the end
unfoldable pub add_content : State → List (List ℕ) → Result State TimeReason
add_content s words = if is_last words then Ok (with_end s) else add_event s words

-- by what may come next
abbrev pub add_at : Stage → State → List (List ℕ) → Result State TimeReason
add_at stage.Head s words = add_head s words
add_at stage.Events s words = add_content s words
add_at stage.Ended s words = Err reason.Word

-- The words are those of a line that has its place behind what is there, and with what it adds, this is.
unfoldable pub added : State → List (List ℕ) → Result State TimeReason
added s words = add_at s.stage s words

-- The order of tests: what a line's words say, or the first test that they fail.
use Rattle.std.specs.Prelude.{ℕ, ◌^◌, Bool, false, ◌&&◌, List, [], ◌∷◌, Option, Some, None, Result, Ok, Err, nat_lt}
use Rattle.std.specs.Prelude.{if◌then◌else◌}
use Rattle.std.specs.Str.{bytes_eq}
use Rattle.hq_text.specs.Numbers.{number_of}
use Rattle.hq_text.specs.InTurn.{◌>>=◌}
use Rattle.hq_events.specs.declared.event.Event.{Event}
use Rattle.hq_events.specs.declared.event.Event.TheVariants as event
use Rattle.hq_timeline.specs.declared.fault.TimeReason.{TimeReason}
use Rattle.hq_timeline.specs.declared.fault.TimeReason.TheVariants as reason
use Rattle.hq_timeline.specs.declared.kinds.OneNumber.{OneNumber}
use Rattle.hq_timeline.specs.declared.kinds.OneNumber.TheVariants as one
use Rattle.hq_timeline.specs.declared.kinds.TwoNumbers.{TwoNumbers}
use Rattle.hq_timeline.specs.declared.kinds.TwoNumbers.TheVariants as two
use Rattle.hq_timeline.specs.Names as word

-- the number, if it is at most 4294967295
abbrev pub small : Option ℕ → Result ℕ TimeReason
small None = Err reason.Number
small (Some n) = if nat_lt n (2 ^ 32) then Ok n else Err reason.Number

-- the number that a word is, at most 4294967295
unfoldable pub number_said : List ℕ → Result ℕ TimeReason
number_said word = small (number_of word)

-- the kind of event of this name that has one number
unfoldable pub one_kind : List ℕ → Result OneNumber TimeReason
one_kind name = if bytes_eq name word.launch_word then Ok one.Launch
    else if bytes_eq name word.enter_word then Ok one.Enter
    else if bytes_eq name word.fetch_word then Ok one.Fetch
    else if bytes_eq name word.deliver_word then Ok one.Deliver
    else if bytes_eq name word.complete_word then Ok one.Complete
    else if bytes_eq name word.finish_word then Ok one.Finish
    else Err reason.Word

-- the event of a kind and its number
abbrev pub event_of_one : OneNumber → ℕ → Event
event_of_one one.Launch a = event.Launch a
event_of_one one.Enter a = event.Enter a
event_of_one one.Fetch a = event.Fetch a
event_of_one one.Deliver a = event.Deliver a
event_of_one one.Complete a = event.Complete a
event_of_one one.Finish a = event.Finish a

-- the kind of event of this name that has the numbers of a packet and of a byte or a slot
abbrev pub packet_kind : List ℕ → Result TwoNumbers TimeReason
packet_kind name = if bytes_eq name word.read_word then Ok two.Read
    else if bytes_eq name word.store_word then Ok two.Store
    else if bytes_eq name word.observe_word then Ok two.Observe
    else Err reason.Word

-- the kind of event of this name that has two numbers
unfoldable pub two_kind : List ℕ → Result TwoNumbers TimeReason
two_kind name = if bytes_eq name word.push_lane_word then Ok two.PushLane
    else if bytes_eq name word.push_agent_word then Ok two.PushAgent
    else if bytes_eq name word.fill_lane_word then Ok two.FillLane
    else if bytes_eq name word.fill_agent_word then Ok two.FillAgent
    else if bytes_eq name word.drop_lane_word then Ok two.DropLane
    else if bytes_eq name word.drop_agent_word then Ok two.DropAgent
    else packet_kind name

-- the event of a kind and its numbers
abbrev pub event_of_two : TwoNumbers → ℕ → ℕ → Event
event_of_two two.PushLane a b = event.PushLane a b
event_of_two two.PushAgent a b = event.PushAgent a b
event_of_two two.FillLane a b = event.FillLane a b
event_of_two two.FillAgent a b = event.FillAgent a b
event_of_two two.DropLane a b = event.DropLane a b
event_of_two two.DropAgent a b = event.DropAgent a b
event_of_two two.Read a b = event.Read a b
event_of_two two.Store a b = event.Store a b
event_of_two two.Observe a b = event.Observe a b

-- a line of one word
unfoldable pub plain_said : List ℕ → Result Event TimeReason
plain_said name = if bytes_eq name word.submit_word then Ok event.Submit
    else if bytes_eq name word.rest_word then Ok event.Rest
    else Err reason.Word

-- a line of a name and one number
unfoldable pub one_said : List ℕ → List ℕ → Result Event TimeReason
one_said name first = do
  kind ← one_kind name
  a ← number_said first
  Ok (event_of_one kind a)

-- a line of a name and two numbers
unfoldable pub two_said : List ℕ → List ℕ → List ℕ → Result Event TimeReason
two_said name first second = do
  kind ← two_kind name
  a ← number_said first
  b ← number_said second
  Ok (event_of_two kind a b)

-- the event that the words of a line say
unfoldable pub event_said : List (List ℕ) → Result Event TimeReason
event_said [] = Err reason.Word
event_said (name ∷ []) = plain_said name
event_said (name ∷ first ∷ []) = one_said name first
event_said (name ∷ first ∷ second ∷ []) = two_said name first second
event_said (name ∷ first ∷ second ∷ third ∷ more) = Err reason.Word

-- the words are those of the first line
unfoldable pub is_head : List (List ℕ) → Bool
is_head (name ∷ version ∷ []) = bytes_eq name word.head_word && bytes_eq version word.version_word
is_head _ = false

-- the words are those of the last line
unfoldable pub is_last : List (List ℕ) → Bool
is_last (name ∷ []) = bytes_eq name word.end_word
is_last _ = false

-- What `replay` writes.
use Rattle.std.specs.Prelude.{◌≡◌, ℕ, List, ◌++◌, Option, Some, None, MatchOption, codes}
use Rattle.std.specs.Fmt.{decimal}
use Rattle.hq_text.specs.Lines.{lines_of}
use Rattle.hq_job.specs.Plan.{plan}
use Rattle.hq_job.specs.Value.{JobValue}
use Rattle.hq_events.specs.declared.event.Event.{Event}
use Rattle.hq_timeline.specs.Grammar.{TimeText}
use Rattle.hq_timeline.specs.TextFaults.{FirstFault}
use Rattle.hq_timeline.specs.Replays.{Replayed, StopsAt}
use Rattle.hq_timeline.specs.declared.fault.TimeFault.{TimeFault}
use Rattle.hq_timeline.specs.declared.fault.TimeReason.{TimeReason}
use Rattle.hq_timeline.specs.declared.fault.TimeReason.TheVariants as reason
use Rattle.hq_timeline.specs.declared.fault.ReplayFault.{ReplayFault}
use Rattle.hq_timeline.specs.declared.fault.ReplayFault.TheVariants as fault
use Rattle.hq_engines.specs.Buffers.{buffers_text}
use Rattle.hq_status.specs.Reports.{Said, with_feed}
use Rattle.hq_status.specs.declared.status.Status.{Status}
use Rattle.hq_status.specs.declared.status.TimelineFault.{TimelineFault}
use Rattle.hq_status.specs.declared.status.TimelineReason.{TimelineReason}
use Rattle.hq_status.specs.declared.status.TimelineReason.TheVariants as told
use Rattle.hq_status.specs.declared.status.Status.TheVariants.{Done, TimelineRefused, NotEnabled, Memory}

-- ---- the lines

-- what a fault tells of a text, if it isn't that memory ran out
abbrev pub told_as : ℕ → TimeReason → Option TimelineFault
told_as line reason.Word = Some (record { line = line; reason = told.Word })
told_as line reason.Number = Some (record { line = line; reason = told.Number })
told_as line reason.NoEnd = Some (record { line = line; reason = told.NoEnd })
told_as line reason.Memory = None

-- what the parser's fault tells of a text: a line and what is wrong with it; nothing where memory ran out
abbrev pub told_of : TimeFault → Option TimelineFault
told_of fault = told_as fault.line fault.reason

-- the code of what is wrong with a timeline's line
abbrev pub time_code : TimelineReason → List ℕ
time_code told.Word = codes "E1"
time_code told.Number = codes "E2"
time_code told.NoEnd = codes "E3"

-- the refusal of a timeline's text: the line, and the code of what is wrong with it
abbrev pub time_refusal : TimelineFault → List ℕ
time_refusal fault = codes "refused line " ++ decimal fault.line ++ codes " " ++ time_code fault.reason

-- the refusal of an event that isn't enabled, by its place
abbrev pub event_refusal : ℕ → List ℕ
event_refusal place = codes "refused event " ++ decimal place

-- ---- the reports

-- Why there is no journal: the text has a first fault.
pub data NoTimeline (text : List ℕ) : List ℕ → Status → Type 0 where
  refused : (fault : TimeFault) (told : TimelineFault) → FirstFault (lines_of text) fault → told_of fault ≡ Some told
      → NoTimeline text (with_feed (time_refusal told)) (TimelineRefused told)

-- What is written of a job and the events of a journal: the buffers as these leave them; or the first event that
-- isn't enabled.
pub data RunReport (job : JobValue) (events : List Event) : List ℕ → Status → Type 0 where
  replayed : (bytes : List ℕ) → Replayed (plan job) events bytes
      → RunReport job events (buffers_text job.buffers bytes) Done
  stopped : (place : ℕ) → StopsAt (plan job) events place
      → RunReport job events (with_feed (event_refusal place)) (NotEnabled place)
  no_memory : RunReport job events (with_feed (codes "out of memory")) Memory

-- What is written of a timeline's text: the report of its events; or why there are none.
pub data TimelineReport (Report : List Event → List ℕ → Status → Type 0) (timeline : List ℕ) : List ℕ → Status
    → Type 0 where
  read : {out : List ℕ} {status : Status} (events : List Event) → TimeText (lines_of timeline) events
      → Report events out status → TimelineReport Report timeline out status
  no_timeline : {out : List ℕ} {status : Status} → NoTimeline timeline out status
      → TimelineReport Report timeline out status

-- ---- what the parts write

-- why there is no journal is written, by the parser's fault
abbrev pub SaysNoTimeline : TimeFault → Option (List ℕ) → Option (List ℕ) → Status → Type 0
SaysNoTimeline fault old new answered =
    MatchOption (told_of fault) (Said old new (with_feed (codes "out of memory")) Memory answered)
    (λ told. Said old new (with_feed (time_refusal told)) (TimelineRefused told) answered)

-- why the events don't all happen is written
abbrev pub StopSaid : ReplayFault → Option (List ℕ) → Option (List ℕ) → Status → Type 0
StopSaid (fault.NotEnabled place) old new answered =
    Said old new (with_feed (event_refusal place)) (NotEnabled place) answered
StopSaid fault.Memory old new answered = Said old new (with_feed (codes "out of memory")) Memory answered

-- What `replay` writes.
use Rattle.std.proofs.Common.{◌≡◌, ◌⊎◌, ℕ, zero, suc, inl, inr, List, [], ◌∷◌, Option, Some, None, length, codes, ap, ◌∙◌, sym, refl, arith, length-append}
use Rattle.hq_model.specs.Job.{Job}
use Rattle.hq_model.specs.Machine.{listed}
use Rattle.hq_text.specs.Lines.{lines_of}
use Rattle.hq_events.specs.declared.event.Event.{Event}
use Rattle.hq_text.specs.Intake.{OfText}
use Rattle.hq_text.specs.Turns.{ReadTurn}
use Rattle.hq_timeline.specs.Gives.{HasFault}
use Rattle.hq_timeline.specs.TextFaults.{FirstFault}
use Rattle.hq_timeline.specs.Grammar.{TimeText}
use Rattle.hq_timeline.specs.Replays.{Replayed, NotReplayed}
use Rattle.hq_timeline.specs.declared.fault.TimeFault.{TimeFault}
use Rattle.hq_timeline.specs.declared.fault.ReplayFault.{ReplayFault}
use Rattle.hq_timeline.specs.declared.fault.ReplayFault.TheVariants as stop
use Rattle.hq_job.specs.Plan.{plan}
use Rattle.hq_job.specs.Value.{JobValue}
use Rattle.hq_engines.specs.Buffers.{buffers_text}
use Rattle.hq_engines.specs.Replay.{NoTimeline, SaysNoTimeline, StopSaid, RunReport, TimelineReport, told_of, time_refusal, event_refusal}
use Rattle.hq_engines.specs.Replay.NoTimeline.{refused}
use Rattle.hq_engines.specs.Replay.RunReport.{replayed, stopped, no_memory as run_memory}
use Rattle.hq_engines.specs.Replay.TimelineReport.{read, no_timeline}
use Rattle.hq_status.specs.Reports.{OfReader, ReaderReport, Reported, Said, with_feed}
use Rattle.hq_status.specs.Reports.ReaderReport.{of_text, no_memory}
use Rattle.hq_status.proofs.ReadTexts.{of_reader, missing, found}
use Rattle.hq_status.specs.declared.status.Status.{Status}
use Rattle.hq_status.specs.declared.status.TimelineFault.{TimelineFault}
use Rattle.std.specs.Prelude.{MatchOption}
use Rattle.hq_status.specs.declared.status.Status.TheVariants.{Done, TimelineRefused, NotEnabled, Memory}

-- a fault that isn't of memory is the text's
own : (text : List ℕ) (fault : TimeFault) (told : TimelineFault) → HasFault (lines_of text) fault → told_of fault ≡ Some told → FirstFault (lines_of text) fault
own text fault told (inl e) is = absurd (none_some told (ap told_of (sym e) ∙ is))
  where
    none_some : (told : TimelineFault) → None ≡ Some told → ⊥
    none_some told e = cc
own text fault told (inr first) is = first

pub no_timeline_said : (S : Type 0) (left : S → Option (List ℕ)) (old new : S) (fault : TimeFault) (was is : Option (List ℕ)) (answered : Status)
    → OfText S (ReadTurn left) 2000000 old new (λ text. HasFault (lines_of text) fault) → SaysNoTimeline fault was is answered → Reported (ReaderReport S left old new NoTimeline) was is answered
no_timeline_said S left old new fault was is answered h said = go (told_of fault) refl said
  where
    go : (o : Option TimelineFault) → told_of fault ≡ o → MatchOption o (Said was is (with_feed (codes "out of memory")) Memory answered) (λ told. Said was is (with_feed (time_refusal told)) (TimelineRefused told) answered)
        → Reported (ReaderReport S left old new NoTimeline) was is answered
    go None e said = (with_feed (codes "out of memory"), Memory, no_memory, said)
    go (Some told) e said =
        (with_feed (time_refusal told), TimelineRefused told, of_text (of_reader S left old new (λ text. NoTimeline text (with_feed (time_refusal told)) (TimelineRefused told)) (record { text = h.text; ended = h.ended; so = refused fault told (own h.text fault told h.so e) e })), said)

-- what a replay answered is its report
pub stop_reported : (job : JobValue) (events : List Event) (fault : ReplayFault) (old new : Option (List ℕ)) (answered : Status) → NotReplayed (plan job) events fault → StopSaid fault old new answered → Reported (RunReport job events) old new answered
stop_reported job events (stop.NotEnabled place) old new answered why said = (with_feed (event_refusal place), NotEnabled place, stopped place why, said)
stop_reported job events stop.Memory old new answered why said = (with_feed (codes "out of memory"), Memory, run_memory, said)

pub buffers_reported : (job : JobValue) (events : List Event) (bytes : List ℕ) (old new : Option (List ℕ)) (answered : Status) → Replayed (plan job) events bytes
    → Said old new (buffers_text job.buffers bytes) Done answered ⊎ Said old new (with_feed (codes "out of memory")) Memory answered → Reported (RunReport job events) old new answered
buffers_reported job events bytes old new answered run (inl said) = (buffers_text job.buffers bytes, Done, replayed bytes run, said)
buffers_reported job events bytes old new answered run (inr said) = (with_feed (codes "out of memory"), Memory, run_memory, said)

pub timeline_missing : (S : Type 0) (left : S → Option (List ℕ)) (old new : S) (Report : List Event → List ℕ → Status → Type 0) (was is : Option (List ℕ)) (answered : Status)
    → Reported (ReaderReport S left old new NoTimeline) was is answered → Reported (ReaderReport S left old new (TimelineReport Report)) was is answered
timeline_missing S left old new Report was is answered said = missing S left old new NoTimeline (TimelineReport Report) (λ text out status why. no_timeline why) was is answered said

pub timeline_found : (S : Type 0) (left : S → Option (List ℕ)) (old new : S) (Report : List Event → List ℕ → Status → Type 0) (events : List Event) (was mid is : Option (List ℕ)) (answered : Status)
    → OfReader S left old new (λ text. TimeText (lines_of text) events) → mid ≡ was → Reported (Report events) mid is answered → Reported (ReaderReport S left old new (TimelineReport Report)) was is answered
timeline_found S left old new Report events was mid is answered h same said =
    found S left old new (λ text. TimeText (lines_of text) events) (Report events) (TimelineReport Report) (λ text out status is_text report. read events is_text report) was mid is answered h same said

length_listed : (n : ℕ) (f : ℕ → ℕ) → length (listed n f) ≡ n
length_listed zero f = refl
length_listed (suc n) f = omega (arith, length-append (listed n f) (f n ∷ []), length_listed n f)

pub replayed_long : (job : Job) (events : List Event) (bytes : List ℕ) → Replayed job events bytes → length bytes ≡ length job.memory
replayed_long job events bytes r = ap length r.memory ∙ length_listed (length job.memory) r.state.memory

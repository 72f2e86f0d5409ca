-- What `run` writes.
use Rattle.std.proofs.Common.{◌≡◌, ◌⊎◌, ℕ, inl, inr, List, [], Option, Some, None, codes, ap₂, refl, subst}
use Rattle.std.specs.Prelude.{MatchOption}
use Rattle.std.proofs.lemmas.Option.{same_Some}
use Rattle.hq_job.specs.Plan.{plan}
use Rattle.hq_job.specs.Value.{JobValue}
use Rattle.hq_events.specs.declared.event.Event.{Event}
use Rattle.hq_runner.specs.Journals.{IsOneByOne, IsWhole}
use Rattle.hq_runner.specs.Outcomes.{IsCounted}
use Rattle.hq_runner.specs.declared.outcome.RunFault.{RunFault}
use Rattle.hq_runner.specs.declared.outcome.RunFault.TheVariants as fault
use Rattle.hq_timeline.specs.Printed.{text_of}
use Rattle.hq_judging.specs.Audit.{NotOrdered}
use Rattle.hq_judging.specs.Audit.NotOrdered.{no_memory}
use Rattle.hq_engines.specs.Buffers.{buffers_text}
use Rattle.hq_status.specs.Reports.{Reported, Said, with_feed}
use Rattle.hq_engines.specs.Recording.{BothSaid, Recorded}
use Rattle.hq_engines.proofs.Recordings.{alone}
use Rattle.hq_run_engine.specs.Run.{NamesPacket, RunReport, failure_of, failure_text}
use Rattle.hq_run_engine.specs.Run.RunReport.{ran, not_ordered, stopped}
use Rattle.hq_status.specs.declared.status.RunFailure.{RunFailure}
use Rattle.hq_status.specs.declared.status.RunFailure.TheVariants as failure
use Rattle.hq_status.specs.declared.status.Status.{Status}
use Rattle.hq_status.specs.declared.status.Status.TheVariants.{Done, RunFailed, Memory}

pub ran_reported : (job : JobValue) (events : List Event) (memory : List ℕ) (begun recorded old new : Option (List ℕ)) (answered : Status) → IsWhole (plan job) events memory → IsOneByOne (plan job) memory
    → BothSaid begun recorded (text_of events) old new (buffers_text job.buffers memory) Done answered ⊎ BothSaid begun recorded [] old new (with_feed (codes "out of memory")) Memory answered
    → Recorded (RunReport job) begun recorded old new answered
ran_reported job events memory begun recorded old new answered whole one (inl said) = (text_of events, buffers_text job.buffers memory, Done, ran events memory whole one, said)
ran_reported job events memory begun recorded old new answered whole one (inr said) = ([], with_feed (codes "out of memory"), Memory, not_ordered no_memory, said)

-- the same of the job and the memory as they were seen
pub ran_of : (job seen : JobValue) (events : List Event) (memory bytes : List ℕ) (begun recorded old new : Option (List ℕ)) (answered : Status) → seen ≡ job → bytes ≡ memory
    → IsWhole (plan job) events memory → IsOneByOne (plan job) memory
    → BothSaid begun recorded (text_of events) old new (buffers_text seen.buffers bytes) Done answered ⊎ BothSaid begun recorded [] old new (with_feed (codes "out of memory")) Memory answered
    → Recorded (RunReport job) begun recorded old new answered
ran_of job seen events memory bytes begun recorded old new answered same_job same_memory whole one said =
    ran_reported job events memory begun recorded old new answered whole one
    (subst (λ text. BothSaid begun recorded (text_of events) old new text Done answered ⊎ BothSaid begun recorded [] old new (with_feed (codes "out of memory")) Memory answered)
    (ap₂ (λ (j : JobValue) m. buffers_text j.buffers m) same_job same_memory) said)

-- the packet that a failure names is the job's, since that of its fault is
pub named_packet : (job : JobValue) (met : RunFault) (found : RunFailure) → IsCounted job.packets met → failure_of met ≡ Some found → NamesPacket job found
named_packet job fault.Memory found c e = absurd (cc)
named_packet job (fault.Kernel packet home lost pieces) found c e = subst (NamesPacket job) (same_Some (failure.Kernel packet) found e) c.0
named_packet job fault.Split found c e = subst (NamesPacket job) (same_Some failure.Split found e) tt
named_packet job (fault.Receipts queue) found c e = subst (NamesPacket job) (same_Some (failure.Receipts queue) found e) tt
named_packet job fault.Unfinished found c e = subst (NamesPacket job) (same_Some failure.Unfinished found e) tt

pub fault_reported : (job : JobValue) (found : Option RunFailure) (begun recorded old new : Option (List ℕ)) (answered : Status)
    → ((told : RunFailure) → found ≡ Some told → NamesPacket job told) → recorded ≡ begun
    → MatchOption found (Said old new (with_feed (codes "out of memory")) Memory answered) (λ f. Said old new (with_feed (failure_text f)) (RunFailed f) answered)
    → Recorded (RunReport job) begun recorded old new answered
fault_reported job (Some f) begun recorded old new answered names same said =
    ([], with_feed (failure_text f), RunFailed f, stopped f (names f refl), alone begun recorded old new (with_feed (failure_text f)) (RunFailed f) answered same said)
fault_reported job None begun recorded old new answered names same said =
    ([], with_feed (codes "out of memory"), Memory, not_ordered no_memory, alone begun recorded old new (with_feed (codes "out of memory")) Memory answered same said)

pub not_ordered_reported : (job : JobValue) (begun recorded old new : Option (List ℕ)) (answered : Status) → recorded ≡ begun → Reported (NotOrdered (plan job)) old new answered
    → Recorded (RunReport job) begun recorded old new answered
not_ordered_reported job begun recorded old new answered same said = ([], said.0, said.1, not_ordered said.2, alone begun recorded old new said.0 said.1 answered same said.3)

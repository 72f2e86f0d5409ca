-- The journal of a run that is over, and whose events its are.
use Rattle.std.specs.Prelude.{◌≡◌, ℕ, ◌<◌, Bool, true, false, List, [], ◌∷◌, ◌++◌, map, filter, length, All, IsTrue}
use Rattle.std.specs.Prelude.{◌==◌, slice_index}
use Rattle.hq_events.specs.declared.event.Event.{Event}
use Rattle.hq_events.specs.declared.event.Event.TheVariants as event
use Rattle.hq_events.specs.Events.{coarse_of}
use Rattle.hq_runner.specs.declared.owner.Owner.{Owner}
use Rattle.hq_runner.specs.declared.owner.Owner.TheVariants as owner
use Rattle.hq_model.specs.Job.{Job, packet, IsPacket}
use Rattle.hq_model.specs.Journal.{JournalRun, Program, HostProgram}
use Rattle.hq_model.specs.Machine.{State, IsByte}
use Rattle.hq_model.specs.Machine.Phase.{Complete}
use Rattle.hq_model.specs.OneByOne.{one_by_one}
use Rattle.hq_model.specs.Order.{Extends}

-- whether the event is one of queue q's processor: a launch names its queue, the others a packet
abbrev pub is_of : Job → ℕ → Event → Bool
is_of job q (event.Launch k) = k == q
is_of job q (event.Observe p slot) = (packet job p).queue == q
is_of job q (event.Enter p) = (packet job p).queue == q
is_of job q (event.Fetch p) = (packet job p).queue == q
is_of job q (event.Deliver p) = (packet job p).queue == q
is_of job q (event.Complete p) = (packet job p).queue == q
is_of job q other = false

-- whether the event is one of the host's
abbrev pub is_host : Event → Bool
is_host event.Submit = true
is_host other = false

-- whether the event is one that a processor or the host asks for
abbrev pub is_asked : Event → Bool
is_asked event.Submit = true
is_asked (event.Launch k) = true
is_asked (event.Observe p slot) = true
is_asked (event.Enter p) = true
is_asked (event.Fetch p) = true
is_asked (event.Deliver p) = true
is_asked (event.Complete p) = true
is_asked other = false

-- the events of queue q's processor
abbrev pub events_of : Job → ℕ → List Event → List Event
events_of job q events = filter (is_of job q) events

-- the submissions among these events, which are what the host does
abbrev pub host_events : List Event → List Event
host_events events = filter is_host events

-- whose events a list has: those of a queue's processor, or those of the host
abbrev pub owned : Job → Owner → Event → Bool
owned job (owner.Queue q) event = is_of job q event
owned job owner.Host event = is_host event

-- Each queue's events are its processor's program, the host's are the host's program, and there are no others.
pub record ArePrograms (job : Job) (events : List Event) : Type 0 where
  pub queues : (q : ℕ) → q < length job.queues → Program job q (map coarse_of (events_of job q events))
  pub host : HostProgram job (map coarse_of (host_events events))
  pub asked : All (λ event. IsTrue (is_asked event)) events

-- The events are a run of the job that completes each of its packets.
pub record Completes (job : Job) (events : List Event) : Type 0 where
  pub state : State
  pub run : JournalRun job (map coarse_of events) state
  pub complete : (p : ℕ) → IsPacket job p → state.phase p ≡ Complete

-- The events are a run of the job that leaves this memory.
pub record Leaves (job : Job) (events : List Event) (memory : List ℕ) : Type 0 where
  pub state : State
  pub run : JournalRun job (map coarse_of events) state
  pub count : length memory ≡ length job.memory
  pub bytes : (b : ℕ) → state.memory b ≡ slice_index memory b

-- The memory is what every order of one packet at a time that keeps the job's order leaves.
abbrev pub IsOneByOne : Job → List ℕ → Type 0
IsOneByOne job memory = (list : List ℕ) → Extends job list → (b : ℕ) → IsByte job b
    → slice_index memory b ≡ one_by_one job list b

-- The journal is a run of the job that completes each packet, in which processors and host do their programs, and
-- which ends with its one rest; and this is the memory that it leaves.
pub record IsWhole (job : Job) (journal : List Event) (memory : List ℕ) : Type 0 where
  pub before : List Event
  pub ends : journal ≡ before ++ event.Rest ∷ []
  pub completes : Completes job before
  pub programs : ArePrograms job before
  pub leaves : Leaves job journal memory

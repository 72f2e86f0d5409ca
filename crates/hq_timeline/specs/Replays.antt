-- What replaying a journal answers.
use Rattle.std.specs.Prelude.{◌≡◌, ℕ, List, length, map, take, slice_get, Some}
use Rattle.hq_events.specs.declared.event.Event.{Event}
use Rattle.hq_events.specs.Events.{coarse_of}
use Rattle.hq_model.specs.Job.{Job}
use Rattle.hq_model.specs.Machine.{State, listed}
use Rattle.hq_model.specs.Journal.{Happens, Journal, JournalRun}
use Rattle.hq_machine.specs.State.{StateValue}
use Rattle.hq_machine.specs.View.{IsStateOf, state_of}
use Rattle.hq_events.specs.declared.fault.StepFault.{StepFault}
use Rattle.hq_events.specs.declared.fault.StepFault.TheVariants as step
use Rattle.hq_timeline.specs.declared.fault.ReplayFault.{ReplayFault}
use Rattle.hq_timeline.specs.declared.fault.ReplayFault.TheVariants as fault

-- the events lead from the job's start to the state
abbrev pub Leads : Job → List Event → State → Type 0
Leads job events state = JournalRun job (map coarse_of events) state

-- The events are a journal's run, and leave memory with these bytes.
pub record Replayed (job : Job) (events : List Event) (bytes : List ℕ) : Type 0 where
  pub state : State
  pub run : Leads job events state
  pub memory : bytes ≡ listed (length job.memory) state.memory

-- The event of this place, counted from 0, is the first that isn't enabled after those before it.
pub record StopsAt (job : Job) (events : List Event) (place : ℕ) : Type 0 where
  pub event : Event
  pub there : slice_get events place ≡ Some event
  pub state : State
  pub run : Leads job (take place events) state
  pub refused : (new : State) → Happens job state (coarse_of event) new → ⊥

-- why the events have no last state, of which the bytes of memory are told
abbrev pub NotReplayed : Job → List Event → ReplayFault → Type 0
NotReplayed job events (fault.NotEnabled place) = StopsAt job events place
NotReplayed job events fault.Memory = Unit {0}

-- ---- from any state of the job

-- The events lead from a state of the job to another.
pub record Goes (job : Job) (old : StateValue) (events : List Event) (new : StateValue) : Type 0 where
  pub is : IsStateOf job new
  pub journal : Journal job (state_of job old) (map coarse_of events) (state_of job new)

-- The event of this place is the first that isn't enabled on the way from a state.
pub record StopsFrom (job : Job) (old : StateValue) (events : List Event) (place : ℕ) : Type 0 where
  pub event : Event
  pub there : slice_get events place ≡ Some event
  pub state : State
  pub journal : Journal job (state_of job old) (map coarse_of (take place events)) state
  pub refused : (new : State) → Happens job state (coarse_of event) new → ⊥

-- why not all events happened, from a state of the job on: one of them isn't enabled, or there is no memory
abbrev pub Stops : Job → StateValue → List Event → ReplayFault → Type 0
Stops job old events (fault.NotEnabled place) = StopsFrom job old events place
Stops job old events fault.Memory = Unit {0}

-- the fault of a replay, by that of the event of a place
abbrev pub FaultOf : ℕ → StepFault → ReplayFault → Type 0
FaultOf place step.NotEnabled f = f ≡ fault.NotEnabled place
FaultOf place step.Memory f = f ≡ fault.Memory

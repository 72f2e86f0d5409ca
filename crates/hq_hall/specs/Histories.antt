-- Runs, event by event.
use Rattle.std.specs.Prelude.{◌≡◌, ◌++◌, ◌∷◌, [], List, map}
use Rattle.hq_certcheck.specs.View.{AcceptedJob}
use Rattle.hq_job.specs.Plan.{plan}
use Rattle.hq_events.specs.declared.event.Event.{Event}
use Rattle.hq_events.specs.Events.{coarse_of}
use Rattle.hq_machine.specs.Enabled.{Possible}
use Rattle.hq_machine.specs.State.{StateValue}
use Rattle.hq_machine.specs.View.{IsStateOf, state_of}
use Rattle.hq_model.specs.Job.{Job}
use Rattle.hq_model.specs.Journal.{Coarse, Happens, JournalRun}
use Rattle.hq_hall.specs.declared.fault.HallFault.{HallFault}
use Rattle.hq_hall.specs.declared.fault.HallFault.TheVariants as fault

-- the accepted job, the state that its run has come to, and the events that led there
pub record HistoryValue : Type 0 where
  pub job : AcceptedJob
  pub state : StateValue
  pub events : List Event

-- the job as numbers
abbrev pub plan_of : HistoryValue → Job
plan_of h = plan h.job.job

-- The events are a run of the job that leads to the state.
pub record RunSoFar (job : Job) (events : List Event) (state : StateValue) : Type 0 where
  pub is : IsStateOf job state
  pub run : JournalRun job (map coarse_of events) (state_of job state)

-- The event happened, and it alone: the journal has it as its last, and the state is one that it leaves.
pub record Moves (old : HistoryValue) (event : Event) (new : HistoryValue) : Type 0 where
  pub job : new.job ≡ old.job
  pub events : new.events ≡ old.events ++ event ∷ []
  pub happens : Happens (plan_of old) (state_of (plan_of old) old.state) (coarse_of event)
      (state_of (plan_of old) new.state)

-- Why a call was refused that may be made where this holds: it doesn't hold, or there is no memory.
abbrev pub Refused : Type 0 → HallFault → Type 0
Refused may fault.NotEnabled = may → ⊥
Refused may fault.WrongPieces = ⊥
Refused may fault.Memory = Unit {0}

-- why an event didn't happen in a state
abbrev pub NotDone : Job → StateValue → Coarse → HallFault → Type 0
NotDone job v event f = Refused (Possible job v event) f

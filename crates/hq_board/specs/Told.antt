-- What a history says of the machine: there is a run of which it is the part that queues and signals decide.
use Rattle.std.specs.Prelude.{◌≡◌, ℕ, ◌++◌, Bool, true, false, List, [], ◌∷◌, filter}
use Rattle.hq_model.specs.Job.{Job, packet, Dependency}
use Rattle.hq_model.specs.Machine.{State, Event, Run}
use Rattle.hq_model.specs.Machine.Event.{Launch, Observe, Enter, Finish, Read, Store, PushLane, PushAgent}
use Rattle.hq_model.specs.Theorems.{Valid}
use Rattle.hq_model.specs.Readied.{SameProgress}
use Rattle.hq_board.specs.declared.entry.Entry.{Entry}
use Rattle.hq_board.specs.declared.entry.Entry.TheVariants.{DidLaunch, DidObserve, DidEnter, DidComplete, Looked}
use Rattle.hq_board.specs.History.{after, Legal, Right}

-- Not a read, a store or a push: of these a history knows nothing, and they change no phase and no signal.
abbrev pub is_told : Event → Bool
is_told (Read p i) = false
is_told (Store p i) = false
is_told (PushLane p b) = false
is_told (PushAgent a b) = false
is_told _ = true

-- the machine's step that stands behind an entry; behind a look there is none
abbrev pub step_of : Job → Entry → List Event
step_of job (DidLaunch p) = Launch (packet job p).queue ∷ []
step_of job (DidObserve p slot) = Observe p slot ∷ []
step_of job (DidEnter p) = Enter p ∷ []
step_of job (DidComplete p) = Finish p ∷ []
step_of job (Looked p slot value) = []

-- those of a history, the oldest first
abbrev pub steps_of : Job → List Entry → List Event
steps_of job [] = []
steps_of job (x ∷ m) = steps_of job m ++ step_of job x

-- The run's launches, observations, entries and completions are those of the history, in its order; all else in it
-- are reads, stores and pushes.
pub record Tells (job : Job) (m : List Entry) (events : List Event) (state : State) : Type 0 where
  pub run : Run job events state
  pub steps : filter is_told events ≡ steps_of job m

-- At the place in the run of a look that stands above these older entries, the signal s has this value.
pub record Found (job : Job) (events : List Event) (older : List Entry) (s value : ℕ) : Type 0 where
  pub first : List Event
  pub last : List Event
  pub split : events ≡ first ++ last
  pub state : State
  pub tells : Tells job older first state
  pub signal : state.signal s ≡ value

-- A run tells the history, its last state has the phases, observed slots and signals that the history leaves, and
-- each look is found.
pub record IsTold (job : Job) (m : List Entry) : Type 0 where
  pub events : List Event
  pub state : State
  pub tells : Tells job m events state
  pub same : SameProgress (after job m) state
  pub looks : (newer older : List Entry) (p slot value s : ℕ)
      → m ≡ newer ++ Looked p slot value ∷ older → Dependency job p slot s → Found job events older s value

-- Each history that its queues and signals allow is told by a run of the machine. (No entry is a submission, so
-- that where queues are rings only the empty history is legal.)
abbrev pub HistoriesRun : Type 0
HistoriesRun = (job : Job) (m : List Entry) → Valid job → Legal job m → Right job m → IsTold job m

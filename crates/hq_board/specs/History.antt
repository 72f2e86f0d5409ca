-- Histories: lists of events and looks, the newest first.
use Rattle.std.specs.Prelude.{◌≡◌, ℕ, ◌<◌, ◌==◌, if◌then◌else◌, true, false, List, [], ◌∷◌, Option, Some, None}
use Rattle.hq_model.specs.Job.{Job, packet, IsPacket, Dependency, IsBarrier}
use Rattle.hq_model.specs.Machine.{State, start, put2, with_phase, completed, MayLaunch, WaitOver}
use Rattle.hq_model.specs.Machine.Phase.{Launched, Active}
use Rattle.hq_board.specs.declared.entry.Entry.{Entry}
use Rattle.hq_board.specs.declared.entry.Entry.TheVariants.{DidLaunch, DidObserve, DidEnter, DidComplete, Looked}

-- the packet of an event or a look
abbrev pub packet_in : Entry → ℕ
packet_in (DidLaunch p) = p
packet_in (DidObserve p slot) = p
packet_in (DidEnter p) = p
packet_in (DidComplete p) = p
packet_in (Looked p slot value) = p

-- the queue of that packet
abbrev pub queue_of : Job → Entry → ℕ
queue_of job x = (packet job (packet_in x)).queue

-- Phases, observed slots and signals after a history. Of the rest the board knows nothing.
abbrev pub next : Job → State → Entry → State
next job state (DidLaunch p) = with_phase state p Launched
next job state (DidObserve p slot) = record state { observed = put2 state.observed p slot true }
next job state (DidEnter p) = with_phase state p Active
next job state (DidComplete p) = completed job state p
next job state (Looked p slot value) = state

-- phases, observed slots and signals after a whole history, from the job's start on
abbrev pub after : Job → List Entry → State
after job [] = start job
after job (x ∷ log) = next job (after job log) x

-- p is a launched barrier packet that hasn't observed the slot
pub record IsOpen (job : Job) (state : State) (p slot : ℕ) : Type 0 where
  pub barrier : IsBarrier job p
  pub launched : state.phase p ≡ Launched
  pub fresh : state.observed p slot ≡ false

-- It is so, and the slot waits for a signal.
pub record MayLook (job : Job) (state : State) (p slot : ℕ) : Type 0 where
  pub signal : ℕ
  pub dependency : Dependency job p slot signal
  pub unobserved : IsOpen job state p slot

-- The entry may come next, as far as its own queue decides.
abbrev pub May : Job → State → Entry → Type 0
May job state (DidLaunch p) = MayLaunch job state (packet job p).queue p
May job state (DidObserve p slot) = MayLook job state p slot
May job state (DidEnter p) = IsPacket job p × (state.phase p ≡ Launched) × WaitOver job state p
May job state (DidComplete p) = IsPacket job p × (state.phase p ≡ Active)
May job state (Looked p slot value) = MayLook job state p slot

-- The signal that the entry saw has that value.
abbrev pub Sees : Job → State → Entry → Type 0
Sees job state (DidObserve p slot) = (s : ℕ) → Dependency job p slot s → state.signal s ≡ 0
Sees job state (Looked p slot value) = (0 < value) × ((s : ℕ) → Dependency job p slot s → state.signal s ≡ value)
Sees job state _ = Unit {0}

-- Each entry came when its own queue allowed it.
abbrev pub Legal : Job → List Entry → Type 0
Legal job [] = Unit {0}
Legal job (x ∷ log) = May job (after job log) x × Legal job log

-- At each observe the signal was at 0, and at each look it had the value above 0 that was seen.
abbrev pub Right : Job → List Entry → Type 0
Right job [] = Unit {0}
Right job (x ∷ log) = Sees job (after job log) x × Right job log

-- what a history has of a queue
abbrev pub part : Job → ℕ → List Entry → List Entry
part job q [] = []
part job q (x ∷ log) = if queue_of job x == q then x ∷ part job q log else part job q log

-- 1 for a completion on no signal, 0 for one on a signal
abbrev pub without_signal : Option ℕ → ℕ
without_signal None = 1
without_signal (Some s) = 0

-- how much an entry adds to its queue's word: 1 for a launch, for an entry, and for a completion on no signal, and
-- else 0
abbrev pub own_step : Job → Entry → ℕ
own_step job (DidLaunch p) = 1
own_step job (DidObserve p slot) = 0
own_step job (DidEnter p) = 1
own_step job (DidComplete p) = without_signal (packet job p).done
own_step job (Looked p slot value) = 0

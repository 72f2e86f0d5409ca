-- What may happen in a state: events that are enabled, what each of them asks, and why one is refused.
use Rattle.std.specs.Prelude.{◌≡◌, ℕ, IsTrue, ◌≢◌, ◌<◌, true, false, length, None}
use Rattle.hq_events.specs.declared.fault.StepFault.{StepFault}
use Rattle.hq_events.specs.declared.fault.StepFault.TheVariants as fault
use Rattle.hq_machine.specs.State.{StateValue}
use Rattle.hq_machine.specs.View.{state_of}
use Rattle.hq_model.specs.Job.{Job, packet, IsPacket, IsBarrier, Dependency, Earlier}
use Rattle.hq_model.specs.Journal.{Coarse, Happens}
use Rattle.hq_model.specs.Machine as machine
use Rattle.hq_model.specs.Machine.{AllRead, Event, Step}
use Rattle.hq_model.specs.Order.{Ahead}

-- The event is enabled.
abbrev pub Enabled : Job → StateValue → Event → Type 0
Enabled job v event = (new : machine.State) × Step job (state_of job v) event new

-- Why a step was refused: the event isn't enabled, or it is, and there is no memory.
abbrev pub Refused : Job → StateValue → Event → StepFault → Type 0
Refused job v event fault.NotEnabled = Enabled job v event → ⊥
Refused job v event fault.Memory = Enabled job v event

-- An event that stands for a list of steps can happen.
abbrev pub Possible : Job → StateValue → Coarse → Type 0
Possible job v event = (new : machine.State) × Happens job (state_of job v) event new

-- Why such an event was refused: it can't happen, or it can, and there is no memory.
abbrev pub NotApplied : Job → StateValue → Coarse → StepFault → Type 0
NotApplied job v event fault.NotEnabled = Possible job v event → ⊥
NotApplied job v event fault.Memory = Possible job v event

-- ---- which packet is next

-- p waits, and no packet that is submitted before it does
pub record IsFirstWaiting (job : Job) (state : machine.State) (p : ℕ) : Type 0 where
  pub is_packet : IsPacket job p
  pub waits : state.phase p ≡ machine.Phase.Waiting
  pub next : (e : ℕ) → Ahead job.submissions e p → state.phase e ≢ machine.Phase.Waiting

-- p is of the queue and isn't launched, and all before it are
pub record IsFirstUnlaunched (job : Job) (state : machine.State) (q p : ℕ) : Type 0 where
  pub is_packet : IsPacket job p
  pub queue : (packet job p).queue ≡ q
  pub waits : machine.is_launched (state.phase p) ≡ false
  pub next : (e : ℕ) → Earlier job e p → machine.is_launched (state.phase e) ≡ true

-- what p's launch asks beside that it is next
pub record IsClear (job : Job) (state : machine.State) (p : ℕ) : Type 0 where
  pub waits : state.phase p ≡ machine.Phase.InQueue
  pub bit : IsTrue (packet job p).bit → (e : ℕ) → Earlier job e p → state.phase e ≡ machine.Phase.Complete
  pub barriers : (e : ℕ) → Earlier job e p → IsBarrier job e → state.phase e ≡ machine.Phase.Complete

-- ---- observations and entries

-- what an observation asks beside a dependency: a barrier packet that waits, the signal at 0, and the slot not yet
-- observed
pub record Observes (job : Job) (state : machine.State) (p slot s : ℕ) : Type 0 where
  pub barrier : IsBarrier job p
  pub launched : state.phase p ≡ machine.Phase.Launched
  pub over : state.signal s ≡ 0
  pub fresh : state.observed p slot ≡ false

-- what an observation asks
pub record MayObserve (job : Job) (state : machine.State) (p slot : ℕ) : Type 0 where
  pub signal : ℕ
  pub dependency : Dependency job p slot signal
  pub observes : Observes job state p slot signal

-- what an entry asks
pub record MayEnter (job : Job) (state : machine.State) (p : ℕ) : Type 0 where
  pub is_packet : IsPacket job p
  pub launched : state.phase p ≡ machine.Phase.Launched
  pub over : machine.WaitOver job state p

-- ---- reads, stores and completions

-- what a read asks beside that p has so many entries
pub record ReadOpen (job : Job) (state : machine.State) (p i : ℕ) : Type 0 where
  pub is_packet : IsPacket job p
  pub active : state.phase p ≡ machine.Phase.Active
  pub fresh : state.read p i ≡ None

-- what a read asks
pub record MayRead (job : Job) (state : machine.State) (p i : ℕ) : Type 0 where
  pub unread : ReadOpen job state p i
  pub few : i < length (packet job p).reads

-- what a store asks
pub record MayStore (job : Job) (state : machine.State) (p i : ℕ) : Type 0 where
  pub is_packet : IsPacket job p
  pub active : state.phase p ≡ machine.Phase.Active
  pub read : AllRead job state p
  pub few : i < length (packet job p).writes
  pub fresh : state.stored p i ≡ false

-- p is at its completion, but for its release fence
pub record IsWorked (job : Job) (state : machine.State) (p : ℕ) : Type 0 where
  pub is_packet : IsPacket job p
  pub active : state.phase p ≡ machine.Phase.Active
  pub read : AllRead job state p
  pub stored : machine.AllStored job state p

-- what a completion asks
pub record MayFinish (job : Job) (state : machine.State) (p : ℕ) : Type 0 where
  pub worked : IsWorked job state p
  pub released : machine.Released job state p (packet job p).release

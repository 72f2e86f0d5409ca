-- What a call changes of a state.
use Rattle.std.specs.Prelude.{◌≡◌, ℕ, ◌≤◌, ◌-◌, ◌==◌, true, false, List, length, Option, Some, None, set}
use Rattle.std.specs.Prelude.{slice_index, slice_index_or, if◌then◌else◌}
use Rattle.hq_copies.specs.Copies.{CopiesValue, after_acquire}
use Rattle.hq_copies.specs.declared.fault.CopiesFault.{CopiesFault}
use Rattle.hq_copies.specs.declared.fault.CopiesFault.TheVariants as copies_fault
use Rattle.hq_events.specs.Rows.{StoresValue, NextRow}
use Rattle.hq_events.specs.declared.fault.StepFault.{StepFault}
use Rattle.hq_events.specs.declared.fault.StepFault.TheVariants as fault
use Rattle.hq_job.specs.Access.{AreOfQueue}
use Rattle.hq_machine.specs.State.{StateValue}
use Rattle.hq_machine.specs.View.{IsStateOf, row_of, state_of, stores_of}
use Rattle.hq_model.specs.Job.{Job, packet, agent_of}
use Rattle.hq_model.specs.Journal.{Coarse, Happens}
use Rattle.hq_model.specs.Machine as machine
use Rattle.hq_model.specs.Machine.{bytes_stored, Event, Step}

-- The state took the step.
pub record Moved (job : Job) (old : StateValue) (event : Event) (new : StateValue) : Type 0 where
  pub is : IsStateOf job new
  pub step : Step job (state_of job old) event (state_of job new)

-- The event, which may stand for a list of steps, happened.
pub record Applied (job : Job) (old : StateValue) (event : Coarse) (new : StateValue) : Type 0 where
  pub is : IsStateOf job new
  pub happens : Happens job (state_of job old) event (state_of job new)

-- ---- phases and observations

-- p is in this phase
abbrev pub in_phase : StateValue → ℕ → machine.Phase → StateValue
in_phase v p x = record v { phases = set v.phases p x }

-- p has observed the slot
abbrev pub with_observed : StateValue → ℕ → ℕ → StateValue
with_observed v p slot = record v { observed = set v.observed p (set (row_of v.observed p) slot true) }

-- ---- copies

-- other copies
abbrev pub with_copies : StateValue → CopiesValue → StateValue
with_copies v copies = record v { copies = copies }

-- what a fault of the copies is for a step
abbrev pub fault_of : CopiesFault → StepFault
fault_of copies_fault.Memory = fault.Memory
fault_of copies_fault.NotDirty = fault.NotEnabled
fault_of copies_fault.NotClean = fault.NotEnabled
fault_of copies_fault.Present = fault.NotEnabled

-- the copies after p's acquire fence: its queue's packets are those from start up to stop
pub record Acquired (job : Job) (old : StateValue) (p : ℕ) (new : StateValue) : Type 0 where
  pub start : ℕ
  pub stop : ℕ
  pub are : AreOfQueue job (packet job p).queue start stop
  pub rising : start ≤ stop
  pub within : stop ≤ length old.copies.lanes
  pub copies : new ≡ with_copies old (after_acquire old.copies start stop (agent_of job p) (packet job p).acquire)

-- ---- reads and stores

-- p has this row of bytes read
abbrev pub with_reads : StateValue → ℕ → List (Option ℕ) → StateValue
with_reads v p row = record v { reads = set v.reads p row }

-- p has read a byte as an entry
pub record ReadTaken (old : StateValue) (p i total byte : ℕ) (new : StateValue) : Type 0 where
  pub row : List (Option ℕ)
  pub next : NextRow (row_of old.reads p) total i byte row
  pub state : new ≡ with_reads old p row

-- p has these stores, and the copies are others
abbrev pub with_stores : StateValue → ℕ → StoresValue → CopiesValue → StateValue
with_stores v p s copies = record v { stores = set v.stores p s; copies = copies }

-- one of the bytes is stored
abbrev pub with_byte_stored : StoresValue → ℕ → StoresValue
with_byte_stored s i = record s { stored = set s.stored i true }

-- stores of all bytes of p's task, that differ from p's stores in one byte that is stored now
pub record NextStores (job : Job) (v : StateValue) (p i : ℕ) (s : StoresValue) : Type 0 where
  pub bytes : s.bytes ≡ bytes_stored job (state_of job v) p
  pub whole : length s.stored ≡ length (packet job p).writes
  pub entry : (j : ℕ)
      → slice_index_or s.stored j false ≡ (if j == i then true else slice_index_or (stores_of v p).stored j false)

-- ---- signals

-- the signals after a completion on this one
abbrev pub decremented : List ℕ → Option ℕ → List ℕ
decremented signals None = signals
decremented signals (Some s) = set signals s (slice_index signals s - 1)

-- the state after that
abbrev pub with_decrement : StateValue → Option ℕ → StateValue
with_decrement v done = record v { signals = decremented v.signals done }

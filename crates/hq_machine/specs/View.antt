-- The model's state that a `State` is, and what is known of a `State` of a job.
use Rattle.std.specs.Prelude.{◌≡◌, ℕ, ◌<◌, true, false, List, [], length, None, slice_index, slice_index_or}
use Rattle.hq_copies.specs.Copies.{CopiesValue, opened}
use Rattle.hq_events.specs.Packets.{AllAre}
use Rattle.hq_events.specs.Rows.{StoresValue, no_stores, IsRow}
use Rattle.hq_machine.specs.State.{StateValue}
use Rattle.hq_model.specs.Job.{Job, packet, IsPacket, agent_of}
use Rattle.hq_model.specs.Machine as machine
use Rattle.hq_model.specs.Machine.{AllRead, IsByte, bytes_stored, is_dirty, first_phase}
use Rattle.hq_model.specs.View.{copies_of, phases_of}

-- the row of packet p, or the one that stands where there is none
abbrev pub row_of : {X : Type 0} → List (List X) → ℕ → List X
row_of rows p = slice_index_or rows p []

-- the stores of packet p, or none
abbrev pub stores_of : StateValue → ℕ → StoresValue
stores_of v p = slice_index_or v.stores p no_stores

-- An entry that isn't in the lists isn't observed, read or stored.
abbrev pub state_of : Job → StateValue → machine.State
state_of job v =
    record {
      phase = phases_of (first_phase job) v.phases;
      observed = λ p slot. slice_index_or (row_of v.observed p) slot false;
      read = λ p i. slice_index_or (row_of v.reads p) i None;
      stored = λ p i. slice_index_or (stores_of v p).stored i false;
      signal = λ s. slice_index v.signals s;
      memory = λ b. slice_index v.copies.memory b;
      agent = copies_of v.copies.agents;
      lane = copies_of v.copies.lanes;
    }

-- a packet's stores, where it has some: as many as the packet writes bytes; it has read all, and the bytes are its
-- task's
pub record AreStores (job : Job) (v : StateValue) (p : ℕ) : Type 0 where
  pub row : IsRow (length (packet job p).writes) (stores_of v p).stored
  pub read : 0 < length (stores_of v p).stored → AllRead job (state_of job v) p
  pub bytes : 0 < length (stores_of v p).stored → (stores_of v p).bytes ≡ bytes_stored job (state_of job v) p

-- only bytes of the job are ever dirty
pub record DirtyWithin (job : Job) (state : machine.State) : Type 0 where
  pub lanes : (p b : ℕ) → is_dirty (state.lane p b) ≡ true → IsByte job b
  pub agents : (a b : ℕ) → is_dirty (state.agent a b) ≡ true → IsByte job b

-- The lists are as long as the job's tables, and each lane stands on its packet's agent.
pub record Lengths (job : Job) (v : StateValue) : Type 0 where
  pub phases : length v.phases ≡ length job.packets
  pub observed : length v.observed ≡ length job.packets
  pub slots : (p : ℕ) → IsPacket job p → length (row_of v.observed p) ≡ 5
  pub reads : length v.reads ≡ length job.packets
  pub stores : length v.stores ≡ length job.packets
  pub signals : length v.signals ≡ length job.starts
  pub memory : length v.copies.memory ≡ length job.memory
  pub agents : length v.copies.agents ≡ job.agents
  pub lanes : length v.copies.lanes ≡ length job.packets
  pub lane_agents : (p : ℕ) → IsPacket job p → slice_index v.copies.lane_agents p ≡ agent_of job p

-- What is known of a state that began as the job's.
pub record IsStateOf (job : Job) (v : StateValue) : Type 0 where
  pub lengths : Lengths job v
  pub read_rows : (p : ℕ) → IsPacket job p → IsRow (length (packet job p).reads) (row_of v.reads p)
  pub stores : (p : ℕ) → IsPacket job p → AreStores job v p
  pub dirty : DirtyWithin job (state_of job v)

-- ---- the state in which a run starts

-- Copies of which nothing is held, with a lane for each packet.
pub record Opens (job : Job) (c : CopiesValue) : Type 0 where
  pub lane_agents : List ℕ
  pub count : length lane_agents ≡ length job.packets
  pub are : AllAre (λ p agent. agent ≡ agent_of job p) lane_agents
  pub copies : c ≡ opened job.memory job.agents lane_agents

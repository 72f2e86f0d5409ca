-- Lists of pushes: of all dirty bytes of one lane or agent, and of some of them in turn. This project's own.
use Rattle.std.specs.Prelude.{◌≡◌, ℕ, ◌+◌, ◌-◌, ◌<◌, ◌≤◌, true, List, [], ◌∷◌, length, slice_index, map}
use Rattle.std.specs.Prelude.{filter, flat_map}
use Rattle.hq_machine.specs.Changes.{with_copies}
use Rattle.hq_machine.specs.State.{StateValue}
use Rattle.hq_copies.specs.Copies.{CopiesValue, Released, PushedLane, PushedAgent, IsLaneByte, IsAgentByte}
use Rattle.hq_model.specs.Job.{Job, packet, IsPacket, agent_of}
use Rattle.hq_model.specs.Journal.{numbers}
use Rattle.hq_model.specs.Machine.{Event, is_dirty, listed}
use Rattle.hq_model.specs.Machine.Event.{PushLane, PushAgent}
use Rattle.hq_model.specs.View.{Held, copies_of}

-- who holds copies
pub data Holders : Type 0 where
  Lanes Agents : Holders

-- the maps of these holders
abbrev pub maps_of : Holders → CopiesValue → List Held
maps_of Lanes c = c.lanes
maps_of Agents c = c.agents

-- the push of a byte of one of them
abbrev pub push_of : Holders → ℕ → ℕ → Event
push_of Lanes k b = PushLane k b
push_of Agents k b = PushAgent k b

-- The copies after a push. Other events are none.
abbrev pub PushedBy : CopiesValue → Event → CopiesValue → Type 0
PushedBy old (PushLane p b) new = IsLaneByte old p b × PushedLane old p b new
PushedBy old (PushAgent a b) new = IsAgentByte old a b × PushedAgent old a b new
PushedBy old _ new = ⊥

-- The pushes happen in their order.
abbrev pub AllPushed : CopiesValue → List Event → CopiesValue → Type 0
AllPushed old [] new = new ≡ old
AllPushed old (event ∷ events) new = (mid : CopiesValue) × PushedBy old event mid × AllPushed mid events new

-- only bytes of memory are dirty, and each lane stands on an agent that is there
pub record Within (c : CopiesValue) : Type 0 where
  pub lanes : (p b : ℕ) → is_dirty (copies_of c.lanes p b) ≡ true → b < length c.memory
  pub agents : (a b : ℕ) → is_dirty (copies_of c.agents a b) ≡ true → b < length c.memory
  pub agents_there : (p : ℕ) → p < length c.lanes → slice_index c.lane_agents p < length c.agents

-- as many bytes and maps, and the lanes on the same agents
pub record Counts (old new : CopiesValue) : Type 0 where
  pub memory : length new.memory ≡ length old.memory
  pub agents : length new.agents ≡ length old.agents
  pub lanes : length new.lanes ≡ length old.lanes
  pub lane_agents : new.lane_agents ≡ old.lane_agents

-- the dirty bytes of one holder, rising
abbrev pub dirty_of : Holders → CopiesValue → ℕ → List ℕ
dirty_of h c k = filter (λ b. is_dirty (copies_of (maps_of h c) k b)) (numbers (length c.memory))

-- what all pushes keep
pub record StaysWithin (old new : CopiesValue) : Type 0 where
  pub counts : Counts old new
  pub within : Within new

-- the numbers from start up to, but not with, stop
abbrev pub span : ℕ → ℕ → List ℕ
span start stop = listed (stop - start) (λ i. start + i)

-- the pushes of all dirty bytes of these holders, in turn
abbrev pub pushes_of : Holders → CopiesValue → List ℕ → List Event
pushes_of h c ks = flat_map (λ k. map (push_of h k) (dirty_of h c k)) ks

-- the dirty bytes of these holders are pushed, in turn; those from stop on hold what they held
pub record Swept (h : Holders) (old : CopiesValue) (start stop : ℕ) (new : CopiesValue) : Type 0 where
  pub run : AllPushed old (pushes_of h old (span start stop)) new
  pub kept : StaysWithin old new
  pub later : (q b : ℕ) → stop ≤ q → copies_of (maps_of h new) q b ≡ copies_of (maps_of h old) q b

-- those of lanes, and then those of agents
pub record WrittenBack (old : CopiesValue) (lane lanes agent agents : ℕ) (new : CopiesValue) : Type 0 where
  pub mid : CopiesValue
  pub lanes_swept : Swept Lanes old lane lanes mid
  pub agents_swept : Swept Agents mid agent agents new

-- the copies of a state of the job: a lane for each packet, on its agent
pub record AreCopiesOf (job : Job) (c : CopiesValue) : Type 0 where
  pub within : Within c
  pub lanes : length c.lanes ≡ length job.packets
  pub agents : length c.agents ≡ job.agents
  pub lane_agents : (p : ℕ) → IsPacket job p → slice_index c.lane_agents p ≡ agent_of job p

-- the copies after the write-backs of p's release fence, over the lanes from start up to stop
pub record WroteBack (job : Job) (old : StateValue) (p start stop : ℕ) (new : StateValue) : Type 0 where
  pub copies : CopiesValue
  pub released : Released old.copies start stop (agent_of job p) (packet job p).release copies
  pub state : new ≡ with_copies old copies

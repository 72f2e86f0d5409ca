-- What the machine's steps do to copies, one step by itself, in every state of every job: which moves are always
-- possible, what nobody sees of them, and what an acquire fence leaves. This project's own.
use Rattle.std.specs.Prelude.{◌≡◌, ℕ, ◌<◌, ◌≢◌, IsTrue, false, None}
use Rattle.hq_model.specs.Job.{Job, packet, IsPacket, agent_of}
use Rattle.hq_packet.specs.Scopes.{reaches}
use Rattle.hq_packet.specs.declared.packet.Scope.TheVariants as scope
use Rattle.hq_model.specs.Machine.{State, Event, Step, IsByte, is_dirty, clean, dirty, agent_sees, lane_sees}
use Rattle.hq_model.specs.Machine.Event.{Enter, PushLane, FillLane, DropLane, PushAgent, FillAgent, DropAgent}

-- The event can happen.
abbrev pub Enabled : Job → State → Event → Type 0
Enabled job state event = (new : State) × Step job state event new

-- In any phase of any packet an absent byte can be filled, a clean one dropped, and a dirty one pushed.
pub record CopiesMove (job : Job) (state : State) : Type 0 where
  pub fill_lane : (p b : ℕ) → IsPacket job p → IsByte job b → state.lane p b ≡ None → Enabled job state (FillLane p b)
  pub drop_lane : (p b value : ℕ) → IsPacket job p → IsByte job b → state.lane p b ≡ clean value
      → Enabled job state (DropLane p b)
  pub push_lane : (p b value : ℕ) → IsPacket job p → IsByte job b → state.lane p b ≡ dirty value
      → Enabled job state (PushLane p b)
  pub fill_agent : (a b : ℕ) → a < job.agents → IsByte job b → state.agent a b ≡ None
      → Enabled job state (FillAgent a b)
  pub drop_agent : (a b value : ℕ) → a < job.agents → IsByte job b → state.agent a b ≡ clean value
      → Enabled job state (DropAgent a b)
  pub push_agent : (a b value : ℕ) → a < job.agents → IsByte job b → state.agent a b ≡ dirty value
      → Enabled job state (PushAgent a b)

-- In every state of every job copies can be moved so.
abbrev pub CopiesMoveAlways : Type 0
CopiesMoveAlways = (job : Job) (state : State) → CopiesMove job state

-- A fill changes nothing that is seen through any lane.
pub record FillsUnseen (job : Job) (old new : State) : Type 0 where
  pub lane : (p b : ℕ) → Step job old (FillLane p b) new → (q c : ℕ) → lane_sees job new q c ≡ lane_sees job old q c
  pub agent : (a b : ℕ) → Step job old (FillAgent a b) new → (q c : ℕ) → lane_sees job new q c ≡ lane_sees job old q c

-- In every state of every job a fill changes nothing that is seen through any lane.
abbrev pub FillsUnseenAlways : Type 0
FillsUnseenAlways = (job : Job) (old new : State) → FillsUnseen job old new

-- After a push the level below has the byte, and the one that pushed it still sees it.
pub record PushesWrite (job : Job) (old new : State) : Type 0 where
  pub lane : (p b : ℕ) → Step job old (PushLane p b) new → agent_sees new (agent_of job p) b ≡ lane_sees job old p b
  pub lane_sees_it : (p b : ℕ) → Step job old (PushLane p b) new → lane_sees job new p b ≡ lane_sees job old p b
  pub agent : (a b : ℕ) → Step job old (PushAgent a b) new → new.memory b ≡ agent_sees old a b
  pub agent_sees_it : (a b : ℕ) → Step job old (PushAgent a b) new → agent_sees new a b ≡ agent_sees old a b
  -- memory changes by the pushes of agents alone
  pub memory : (p b : ℕ) → Step job old (PushLane p b) new → new.memory ≡ old.memory

-- In every state of every job a push gives its byte to the level below, and the one that pushed it still sees it.
abbrev pub PushesWriteAlways : Type 0
PushesWriteAlways = (job : Job) (old new : State) → PushesWrite job old new

-- What p's acquire fence leaves of the copies.
pub record FenceLeaves (job : Job) (old : State) (p : ℕ) (new : State) : Type 0 where
  -- dirty copies are as they were
  pub dirty_lanes : (l b : ℕ) → IsTrue (is_dirty (old.lane l b)) → new.lane l b ≡ old.lane l b
  pub dirty_agents : (a b : ℕ) → IsTrue (is_dirty (old.agent a b)) → new.agent a b ≡ old.agent a b
  -- no clean copy is left in the lanes of its queue's packets by scope agent or system, nor on its agent by scope
  -- system
  pub lanes : IsTrue (reaches (packet job p).acquire scope.Agent) → (l b : ℕ)
      → (packet job l).queue ≡ (packet job p).queue → is_dirty (old.lane l b) ≡ false → new.lane l b ≡ None
  pub agent : IsTrue (reaches (packet job p).acquire scope.System) → (b : ℕ)
      → is_dirty (old.agent (agent_of job p) b) ≡ false → new.agent (agent_of job p) b ≡ None
  -- and no other copy goes
  pub other_lanes : (l b : ℕ) → (packet job l).queue ≢ (packet job p).queue → new.lane l b ≡ old.lane l b
  pub other_agents : (a b : ℕ) → a ≢ agent_of job p → new.agent a b ≡ old.agent a b
  pub no_acquire : reaches (packet job p).acquire scope.Agent ≡ false → (l b : ℕ) → new.lane l b ≡ old.lane l b
  pub no_system : reaches (packet job p).acquire scope.System ≡ false → (a b : ℕ) → new.agent a b ≡ old.agent a b
  pub memory : new.memory ≡ old.memory

-- Wherever a packet enters, in any state of any job, this is what its acquire fence leaves of the copies.
abbrev pub FenceLaw : Type 0
FenceLaw = (job : Job) (old : State) (p : ℕ) (new : State) → Step job old (Enter p) new → FenceLeaves job old p new

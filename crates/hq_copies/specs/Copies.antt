-- Memory, the copies that agents hold of it, those that lanes hold, and the one change that each call makes. A lane
-- is a packet's; it stands on its queue's agent. This project's own.
use Rattle.std.specs.Prelude.{◌≡◌, ◌≢◌, ◌⊎◌, ℕ, zero, suc, ◌+◌, ◌-◌, ◌<◌, ◌≤◌, Bool, true, false, List, []}
use Rattle.std.specs.Prelude.{◌∷◌, length, take, drop, map, ◌++◌, replicate, slice_index, slice_index_or, All}
use Rattle.std.specs.Prelude.{Option, Some, None, set, if◌then◌else◌, refl}
use Rattle.std.specs.Coded.{Coded, code_by, coded×, coded_ℕ, coded_bool, coded_list}
use Rattle.std.specs.FinMap as finite
use Rattle.hq_packet.specs.declared.packet.Scope.{Scope}
use Rattle.hq_packet.specs.declared.packet.Scope.TheVariants as scope
use Rattle.hq_packet.specs.Scopes.{reaches}
use Rattle.hq_model.specs.declared.limits.TheConstants.{BYTES}
use Rattle.hq_model.specs.Machine.{Copy, value_or, is_dirty, listed}
use Rattle.hq_model.specs.View.{Held, copies_of}
use Rattle.hq_copies.specs.Known.{AreKnown}

-- What contracts see: the bytes of memory, the map of each agent and of each lane from bytes to copies, and each
-- lane's agent.
pub record CopiesValue : Type 0 where
  pub memory : List ℕ
  pub agents : List Held
  pub lanes : List Held
  pub lane_agents : List ℕ

-- Each byte's number is small, each lane has an agent that is there, and lanes that hold bytes are in the sets.
pub record IsCopies (memory : List ℕ) (agents lanes : List Held) (lane_agents : List ℕ)
    (holding marked : List ℕ) : Type 0 where
  pub bytes : length memory ≤ BYTES
  pub lanes_agree : length lanes ≡ length lane_agents
  pub agents_there : All (λ a. a < length agents) lane_agents
  pub known : AreKnown lanes holding marked

-- a copy of this byte, dirty or not
abbrev pub a_copy : ℕ → Bool → Copy
a_copy value dirty = record { value = value; dirty = dirty }

-- one of the maps, and the maps with one byte of one of them changed
abbrev pub held : List Held → ℕ → Held
held maps k = slice_index_or maps k finite.empty

-- the maps once the one at k holds this copy of byte b
abbrev pub with_copy : List Held → ℕ → ℕ → Copy → List Held
with_copy maps k b copy = set maps k (finite.insert (held maps k) b copy)

-- the maps once the one at k holds no copy of byte b
abbrev pub without_copy : List Held → ℕ → ℕ → List Held
without_copy maps k b = set maps k (finite.remove (held maps k) b)

-- ---- what is seen

-- byte b as agent a sees it: its copy's, or where it holds none, memory's
abbrev pub agent_byte : CopiesValue → ℕ → ℕ → ℕ
agent_byte c a b = value_or (copies_of c.agents a b) (slice_index c.memory b)

-- byte b as it is seen through lane p: its copy's, or where it holds none, the one that its agent sees
abbrev pub lane_byte : CopiesValue → ℕ → ℕ → ℕ
lane_byte c p b = value_or (copies_of c.lanes p b) (agent_byte c (slice_index c.lane_agents p) b)

-- ---- numbers in range

-- There is a lane p, and a byte b of memory.
abbrev pub IsLaneByte : CopiesValue → ℕ → ℕ → Type 0
IsLaneByte c p b = (p < length c.lanes) × (b < length c.memory)

-- There is an agent a, and a byte b of memory.
abbrev pub IsAgentByte : CopiesValue → ℕ → ℕ → Type 0
IsAgentByte c a b = (a < length c.agents) × (b < length c.memory)

-- ---- the changes

-- memory with these bytes, so many agents, and for each number listed a lane on that agent; none of them holds a copy
abbrev pub opened : List ℕ → ℕ → List ℕ → CopiesValue
opened memory agents lane_agents =
    record {
      memory = memory;
      agents = replicate agents finite.empty;
      lanes = replicate
          (length lane_agents) finite.empty;
      lane_agents = lane_agents;
    }

-- The byte is written through lane p, which then holds it, dirty.
abbrev pub stored : CopiesValue → ℕ → ℕ → ℕ → CopiesValue
stored c p b value = record c { lanes = with_copy c.lanes p b (a_copy value true) }

-- the bytes are stored one behind the other, from byte b on
abbrev pub stored_run : CopiesValue → ℕ → ℕ → List ℕ → CopiesValue
stored_run c p b [] = c
stored_run c p b (value ∷ values) = stored_run (stored c p b value) p (b + 1) values

-- The lane's dirty byte is written into its agent's map, dirty there, and stays in the lane, clean.
abbrev pub lane_pushed : CopiesValue → ℕ → ℕ → ℕ → CopiesValue
lane_pushed c p b value =
    record c {
      lanes = with_copy c.lanes p b (a_copy value false);
      agents = with_copy c.agents
          (slice_index c.lane_agents p) b (a_copy value true);
    }

-- The agent's dirty byte is written into memory, and stays with the agent, clean.
abbrev pub agent_pushed : CopiesValue → ℕ → ℕ → ℕ → CopiesValue
agent_pushed c a b value = record c {
  agents = with_copy c.agents a b
      (a_copy value false);
  memory = set c.memory b value;
}

-- a clean copy of what is seen below
abbrev pub lane_filled : CopiesValue → ℕ → ℕ → CopiesValue
lane_filled c p b = record c {
  lanes = with_copy c.lanes p b
      (a_copy (agent_byte c (slice_index c.lane_agents p) b) false);
}

-- Agent a takes a clean copy of byte b from memory.
abbrev pub agent_filled : CopiesValue → ℕ → ℕ → CopiesValue
agent_filled c a b = record c { agents = with_copy c.agents a b (a_copy (slice_index c.memory b) false) }

-- Lane p lets its copy of byte b go.
abbrev pub lane_dropped : CopiesValue → ℕ → ℕ → CopiesValue
lane_dropped c p b = record c { lanes = without_copy c.lanes p b }

-- Agent a lets its copy of byte b go.
abbrev pub agent_dropped : CopiesValue → ℕ → ℕ → CopiesValue
agent_dropped c a b = record c { agents = without_copy c.agents a b }

-- A map without its clean copies.
abbrev pub dirty_only : Held → Held
dirty_only m = finite.retain_keys m (λ b. is_dirty (finite.get m b))

-- the maps from start on and before end, each without its clean copies
abbrev pub dirty_within : ℕ → ℕ → List Held → List Held
dirty_within start end maps = take start maps ++ map dirty_only (drop start (take end maps)) ++ drop end maps

-- An acquire fence: of scope agent or system it drops the clean copies of the lanes from start on and before end,
-- of scope system also those of the agent. Dirty copies stay.
abbrev pub after_acquire : CopiesValue → ℕ → ℕ → ℕ → Scope → CopiesValue
after_acquire c start end a fence =
    record c {
      lanes = if reaches fence scope.Agent then dirty_within start end c.lanes else c.lanes;
      agents = if reaches fence scope.System then set c.agents a (dirty_only (held c.agents a)) else c.agents;
    }

-- ---- write-backs of all dirty bytes

-- the same copy, clean
abbrev pub cleaned : Option Copy → Option Copy
cleaned None = None
cleaned (Some copy) = Some (a_copy copy.value false)

-- the upper copy where it is dirty, otherwise the lower one
abbrev pub taken : Option Copy → Option Copy → Option Copy
taken upper lower = if is_dirty upper then upper else lower

-- the copy's byte where it is dirty, otherwise this one
abbrev pub written : Option Copy → ℕ → ℕ
written copy byte = if is_dirty copy then value_or copy byte else byte

-- what stands below a byte where so many lanes from start on have written their dirty bytes back, one behind the other
abbrev pub after_pushes : List Held → ℕ → ℕ → ℕ → Option Copy → Option Copy
after_pushes lanes start zero b below = below
after_pushes lanes start (suc count) b below =
    taken (copies_of lanes (start + count) b) (after_pushes lanes start count b below)

-- All dirty bytes of the lanes from start on and before end are written back to agent a, and are clean.
pub record LanesReleased (old : CopiesValue) (start end a : ℕ) (new : CopiesValue) : Type 0 where
  pub memory : new.memory ≡ old.memory
  pub lane_agents : new.lane_agents ≡ old.lane_agents
  pub lane_count : length new.lanes ≡ length old.lanes
  pub agent_count : length new.agents ≡ length old.agents
  pub inside : (l b : ℕ) → start ≤ l → l < end → copies_of new.lanes l b ≡ cleaned (copies_of old.lanes l b)
  pub outside : (l b : ℕ) → (l < start) ⊎ (end ≤ l) → copies_of new.lanes l b ≡ copies_of old.lanes l b
  pub agent : (b : ℕ)
      → copies_of new.agents a b ≡ after_pushes old.lanes start (end - start) b (copies_of old.agents a b)
  pub others : (q b : ℕ) → q ≢ a → copies_of new.agents q b ≡ copies_of old.agents q b

-- All dirty bytes of agent a are written back to memory, and are clean.
pub record AgentReleased (old : CopiesValue) (a : ℕ) (new : CopiesValue) : Type 0 where
  pub lanes : new.lanes ≡ old.lanes
  pub lane_agents : new.lane_agents ≡ old.lane_agents
  pub agent_count : length new.agents ≡ length old.agents
  pub byte_count : length new.memory ≡ length old.memory
  pub memory : (b : ℕ) → b < length old.memory
      → slice_index new.memory b ≡ written (copies_of old.agents a b) (slice_index old.memory b)
  pub agent : (b : ℕ) → copies_of new.agents a b ≡ cleaned (copies_of old.agents a b)
  pub others : (q b : ℕ) → q ≢ a → copies_of new.agents q b ≡ copies_of old.agents q b

-- What a release fence writes back: by scope agent or system the dirty bytes of the lanes, by system then those of
-- the agent.
abbrev pub Released : CopiesValue → ℕ → ℕ → ℕ → Scope → CopiesValue → Type 0
Released old start end a scope.None new = new ≡ old
Released old start end a scope.Agent new = LanesReleased old start end a new
Released old start end a scope.System new = (mid : CopiesValue) × LanesReleased old start end a mid
    × AgentReleased mid a new

-- ---- what is asked

-- There is a copy, and it is clean.
abbrev pub IsClean : Option Copy → Type 0
IsClean copy = (value : ℕ) × (copy ≡ Some (a_copy value false))

-- There is a copy, and it is dirty.
abbrev pub IsDirty : Option Copy → Type 0
IsDirty copy = (value : ℕ) × (copy ≡ Some (a_copy value true))

-- What a release fence waits for: by scope agent or system no lane from start on and before end is dirty, by system
-- nor is the agent.
pub record IsReleased (c : CopiesValue) (start end a : ℕ) (fence : Scope) : Type 0 where
  pub lanes : reaches fence scope.Agent ≡ true → (l b : ℕ) → start ≤ l → l < end
      → is_dirty (copies_of c.lanes l b) ≡ false
  pub agent : reaches fence scope.System ≡ true → (b : ℕ) → is_dirty (copies_of c.agents a b) ≡ false

-- b is the least dirty byte.
pub record IsFirstDirty (m : Held) (b : ℕ) : Type 0 where
  pub dirty : is_dirty (finite.get m b) ≡ true
  pub least : (c : ℕ) → c < b → is_dirty (finite.get m c) ≡ false

-- No byte that is held is dirty.
abbrev pub NoneDirty : Held → Type 0
NoneDirty m = (b : ℕ) → is_dirty (finite.get m b) ≡ false

-- There is no copy.
abbrev pub IsAbsent : Option Copy → Type 0
IsAbsent copy = copy ≡ None

-- ---- what a push does: of a dirty byte

-- Lane p's copy of byte b was dirty, and all that changed is its write-back to the lane's agent.
abbrev pub PushedLane : CopiesValue → ℕ → ℕ → CopiesValue → Type 0
PushedLane old p b new = (value : ℕ) × (copies_of old.lanes p b ≡ Some (a_copy value true))
    × (new ≡ lane_pushed old p b value)

-- Agent a's copy of byte b was dirty, and all that changed is its write-back to memory.
abbrev pub PushedAgent : CopiesValue → ℕ → ℕ → CopiesValue → Type 0
PushedAgent old a b new = (value : ℕ) × (copies_of old.agents a b ≡ Some (a_copy value true))
    × (new ≡ agent_pushed old a b value)

-- the bytes that are seen through a lane from b on, so many of them
abbrev pub lane_bytes : CopiesValue → ℕ → ℕ → ℕ → List ℕ
lane_bytes c p b count = listed count (λ i. lane_byte c p (b + i))

-- ---- how the values are told apart

-- copies are told apart by their byte, and by whether they are dirty
abbrev pub copy_code : Coded Copy
copy_code = code_by (ℕ × Bool) (coded× coded_ℕ coded_bool) (λ c. (c.value, c.dirty))
    (λ t. record { value = t.0; dirty = t.1 }) (λ _. refl)

-- what agents and lanes hold is told apart by the bytes that are held and by their copies
abbrev pub held_code : Coded Held
held_code = finite.code coded_ℕ copy_code

-- all of it is told apart by memory, by what each agent and each lane holds, and by each lane's agent
abbrev pub copies_code : Coded CopiesValue
copies_code =
    code_by (List ℕ × (List Held × (List Held × List ℕ)))
    (coded× (coded_list coded_ℕ) (coded× (coded_list held_code) (coded× (coded_list held_code) (coded_list coded_ℕ))))
    (λ c. (c.memory, (c.agents, (c.lanes, c.lane_agents))))
    (λ t. record { memory = t.0; agents = t.1.0; lanes = t.1.1.0; lane_agents = t.1.1.1 })
    (λ _. refl)

-- ---- runs

-- how many numbers below n pass the test
abbrev pub count_below : (ℕ → Bool) → ℕ → ℕ
count_below test zero = 0
count_below test (suc n) = count_below test n + (if test n then 1 else 0)

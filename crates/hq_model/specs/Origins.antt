-- Where bytes come from, apart from their values: the packet that stored a byte, or the start. This project's own.
use Rattle.std.specs.Prelude.{◌≡◌, ℕ, IsTrue, List, [], ◌∷◌, slice_index, Option, Some, None, IfSome}
use Rattle.hq_model.specs.Job.{Job, packet, IsPacket, agent_of}
use Rattle.hq_model.specs.Order.{In, place}
use Rattle.hq_model.specs.Machine.{State, Copy, Event, Step, Run, start, put, put2, AllRead, bytes_stored}
use Rattle.hq_model.specs.Machine.Event.{Read, Store, PushLane, PushAgent, FillLane, FillAgent}
use Rattle.hq_model.specs.Theorems.{Valid}

-- where a byte comes from: it is as memory starts, or packet p stored it
pub data Origin : Type 0 where
  Start : Origin
  StoredBy : (p : ℕ) → Origin

-- the origin of each byte of memory, of each agent's and each lane's copy of it, and of each entry that was read
pub record Origins : Type 0 where
  pub memory : ℕ → Origin
  pub agent : ℕ → ℕ → Origin
  pub lane : ℕ → ℕ → Origin
  pub read : ℕ → ℕ → Origin

-- the origins where a run begins: no packet has stored a byte yet
abbrev pub all_start : Origins
all_start = record { memory = λ b. Start; agent = λ a b. Start; lane = λ p b. Start; read = λ p i. Start }

-- a copy's own origin where there is a copy, else that of what is below
abbrev pub origin_or : Option Copy → Origin → Origin → Origin
origin_or None own below = below
origin_or (Some copy) own below = own

-- the origin of byte b as agent a sees it
abbrev pub agent_origin : State → Origins → ℕ → ℕ → Origin
agent_origin state o a b = origin_or (state.agent a b) (o.agent a b) (o.memory b)

-- the origin of byte b as it is seen through p's lane
abbrev pub lane_origin : Job → State → Origins → ℕ → ℕ → Origin
lane_origin job state o p b = origin_or (state.lane p b) (o.lane p b) (agent_origin state o (agent_of job p) b)

-- A read has the origin of what is seen; a store is an origin of its own; pushes and fills carry the origin as they
-- carry the byte. All else leaves the origins as they are.
abbrev pub moved : Job → State → Origins → Event → Origins
moved job old o (Read p i) =
    record o { read = put2 o.read p i (lane_origin job old o p (slice_index (packet job p).reads i)) }
moved job old o (Store p i) = record o { lane = put2 o.lane p (slice_index (packet job p).writes i) (StoredBy p) }
moved job old o (PushLane p b) = record o { agent = put2 o.agent (agent_of job p) b (o.lane p b) }
moved job old o (PushAgent a b) = record o { memory = put o.memory b (o.agent a b) }
moved job old o (FillLane p b) = record o { lane = put2 o.lane p b (agent_origin old o (agent_of job p) b) }
moved job old o (FillAgent a b) = record o { agent = put2 o.agent a b (o.memory b) }
moved job old o _ = o

-- From old with its origins, the events are enabled in their order and leave new with its origins.
abbrev pub Traced : Job → State → Origins → List Event → State → Origins → Type 0
Traced job old o [] new n = (new ≡ old) × (n ≡ o)
Traced job old o (event ∷ events) new n =
    (mid : State) × Step job old event mid × Traced job mid (moved job old o event) events new n

-- The run leads to the state, and there to these origins.
abbrev pub OriginsOf : Job → List Event → State → Origins → Type 0
OriginsOf job events state o = Traced job (start job) all_start events state o

-- ---- what origins tell

-- p has stored byte b, and that stored this.
pub record IsStoreOf (job : Job) (state : State) (p b byte : ℕ) : Type 0 where
  pub is_packet : IsPacket job p
  pub writes : In (packet job p).writes b
  pub read : AllRead job state p
  pub stored : IsTrue (state.stored p (place (packet job p).writes b))
  pub is : byte ≡ slice_index (bytes_stored job state p) (place (packet job p).writes b)

-- The byte is the one that memory starts with there, or the one that the packet stored there.
abbrev pub ComesFrom : Job → State → ℕ → Origin → ℕ → Type 0
ComesFrom job state b Start byte = byte ≡ slice_index job.memory b
ComesFrom job state b (StoredBy p) byte = IsStoreOf job state p b byte

-- So it is of an entry that was read.
abbrev pub ReadFrom : Job → State → Origins → ℕ → ℕ → ℕ → Type 0
ReadFrom job state o p i byte = ComesFrom job state (slice_index (packet job p).reads i) (o.read p i) byte

-- So it is of each byte of memory, of each copy that is there, and of each entry that was read.
pub record OriginsHold (job : Job) (state : State) (o : Origins) : Type 0 where
  pub memory : (b : ℕ) → ComesFrom job state b (o.memory b) (state.memory b)
  pub agents : (a b : ℕ) → IfSome (state.agent a b) (λ copy. ComesFrom job state b (o.agent a b) copy.value)
  pub lanes : (p b : ℕ) → IfSome (state.lane p b) (λ copy. ComesFrom job state b (o.lane p b) copy.value)
  pub reads : (p i : ℕ) → IfSome (state.read p i) (ReadFrom job state o p i)

-- ---- the laws

-- In every run the bytes are what their origins made them.
abbrev pub OriginsTell : Type 0
OriginsTell =
    (job : Job) (events : List Event) (state : State) (o : Origins)
    → Valid job → OriginsOf job events state o → OriginsHold job state o

-- Where events have origins they are a run, and each run has its origins, and no others.
pub record RunHasOrigins (job : Job) (events : List Event) (state : State) : Type 0 where
  pub of_run : Run job events state → (o : Origins) × OriginsOf job events state o
  pub is_run : (o : Origins) → OriginsOf job events state o → Run job events state
  pub once : (o n : Origins) → OriginsOf job events state o → OriginsOf job events state n → o ≡ n

-- Of every job whose tables fit: each run has its origins, and no others, and only runs have some.
abbrev pub RunsHaveOrigins : Type 0
RunsHaveOrigins = (job : Job) (events : List Event) (state : State) → Valid job → RunHasOrigins job events state

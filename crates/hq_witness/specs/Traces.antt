-- What is known of a trace: one byte's origins, in memory, in each agent's and each lane's copy, and in its reads.
use Rattle.std.specs.Prelude.{◌≡◌, ℕ, ◌<◌, ◌==◌, if◌then◌else◌, IsSome, List, [], ◌∷◌, ◌++◌, length, map, set}
use Rattle.std.specs.Prelude.{slice_index_or, All}
use Rattle.hq_events.specs.declared.event.Event.{Event as MachineEvent}
use Rattle.hq_events.specs.Events.{coarse_of}
use Rattle.hq_machine.specs.View.{IsStateOf, state_of}
use Rattle.hq_model.specs.Job.{Job, packet, IsPacket}
use Rattle.hq_model.specs.Journal.Coarse.{One}
use Rattle.hq_model.specs.Machine.{State, Event, Step, IsByte}
use Rattle.hq_model.specs.Origins.{Origins, OriginsOf, moved}
use Rattle.hq_witness.specs.declared.origin.Origin.{Origin}
use Rattle.hq_witness.specs.declared.recording.Recording.{Recording}
use Rattle.hq_witness.specs.declared.trace.Sighting.{Sighting}
use Rattle.hq_witness.specs.declared.trace.Trace.{Trace}
use Rattle.hq_witness.specs.Origins.{named}

-- a trace of one of the job's bytes, with an origin for each agent and for each lane
pub record IsTraceOf (job : Job) (t : Trace) : Type 0 where
  pub is_byte : IsByte job t.byte
  pub agents : length t.agents ≡ job.agents
  pub lanes : length t.lanes ≡ length job.packets

-- It has the origins of what memory has of the byte, and of each copy.
pub record TellsCopies (job : Job) (o : Origins) (t : Trace) : Type 0 where
  pub memory : o.memory t.byte ≡ named t.memory
  pub agents : (a : ℕ) (d : Origin) → a < job.agents → o.agent a t.byte ≡ named (slice_index_or t.agents a d)
  pub lanes : (p : ℕ) (d : Origin) → IsPacket job p → o.lane p t.byte ≡ named (slice_index_or t.lanes p d)

-- The packet has read the entry, of this origin.
pub record IsSighting (job : Job) (state : State) (o : Origins) (s : Sighting) : Type 0 where
  pub is_packet : IsPacket job s.packet
  pub few : s.entry < length (packet job s.packet).reads
  pub there : IsSome (state.read s.packet s.entry)
  pub origin : o.read s.packet s.entry ≡ named s.origin

-- The trace is of one of the job's bytes, and has the right origin of what memory has of it, of each copy, and of each
-- read that it lists.
pub record Tells (job : Job) (state : State) (o : Origins) (t : Trace) : Type 0 where
  pub fits : IsTraceOf job t
  pub copies : TellsCopies job o t
  pub reads : All (IsSighting job state o) t.reads.items

-- After a step that leads to this state the trace tells as the other did before it.
abbrev pub Follows : Job → Trace → Event → State → Trace → Type 0
Follows job before event new after =
    (old : State) (o : Origins) → Step job old event new → Tells job old o before
    → Tells job new (moved job old o event) after

-- such a step is possible
abbrev pub Comes : Job → Event → State → Type 0
Comes job event new = (old : State) × Step job old event new

-- the table with this origin in a place, where the byte is the one that is traced
abbrev pub noted : Trace → ℕ → List Origin → ℕ → Origin → List Origin
noted t b table k x = if b == t.byte then set table k x else table

-- ---- a run with its trace

-- The journal is a run of single steps that leads to the state, and the trace tells its origins.
pub record IsRecording (job : Job) (r : Recording) : Type 0 where
  pub is : IsStateOf job r.state
  pub events : List Event
  pub singles : map coarse_of r.journal ≡ map One events
  pub origins : Origins
  pub run : OriginsOf job events (state_of job r.state) origins
  pub tells : Tells job (state_of job r.state) origins r.trace

-- the journal's last event is this one
abbrev pub EndsWith : List MachineEvent → MachineEvent → Type 0
EndsWith journal event = (ahead : List MachineEvent) × (journal ≡ ahead ++ event ∷ [])

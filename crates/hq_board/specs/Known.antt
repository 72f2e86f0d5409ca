-- What the owner of a seat knows of its queue's packets is what its list says.
use Rattle.std.specs.Prelude.{◌≡◌, ◌≢◌, ℕ, suc, ◌+◌, ◌<◌, ◌≤◌, List, length, slice_index_or, false, []}
use Rattle.std.specs.Prelude.{IsTrue, Bool, count_by}
use Rattle.hq_model.specs.Job.{Job, packet, IsBarrier}
use Rattle.hq_model.specs.Machine as machine
use Rattle.hq_job.specs.Access.{AreOfQueue}
use Rattle.hq_events.specs.Phases.{named}
use Rattle.hq_events.specs.declared.phase.Phase.{Phase}
use Rattle.hq_events.specs.declared.phase.Phase.TheVariants.{InQueue}
use Rattle.hq_board.specs.declared.entry.Entry.{Entry}
use Rattle.hq_board.specs.declared.known.Known.{Known}
use Rattle.hq_board.specs.History.{after}

-- the seat's list, the newest first
abbrev pub log_of : Known → List Entry
log_of known = known.token.me.0.log

-- the phase at a place of the queue, as the owner has it
abbrev pub phase_at : Known → ℕ → machine.Phase
phase_at known i = named (slice_index_or known.phases.items i InQueue)

-- whether a packet in this phase is complete
abbrev pub is_done : Phase → Bool
is_done phase = machine.is_complete (named phase)

-- What the owner notes of the packets of its queue is what the seat's list says: their phases, the slots that they have
-- observed, and how many were launched and are complete.
pub record Tied (job : Job) (known : Known) : Type 0 where
  pub plain : known.token.me.0.deals ≡ false
  pub queue : known.token.me.0.queue ≡ known.queue
  pub near : known.queue < length job.queues
  pub span : AreOfQueue job known.queue known.first (known.first + length known.phases.items)
  pub slot_count : length known.observed.items ≡ length known.phases.items
  pub phases : (i : ℕ) → i < length known.phases.items
      → phase_at known i ≡ (after job (log_of known)).phase (known.first + i)
  pub slots : (i slot : ℕ) → i < length known.phases.items
      → slice_index_or (slice_index_or known.observed.items i []) slot false ≡ (after job (log_of known)).observed
      (known.first + i) slot
  -- the packets are launched in order
  pub within : known.launched ≤ length known.phases.items
  pub begun : (i : ℕ) → i < known.launched → IsTrue (machine.is_launched (phase_at known i))
  pub queued : (i : ℕ) → known.launched ≤ i → i < length known.phases.items → phase_at known i ≡ machine.Phase.InQueue
  -- of the barrier packets that were launched only the last packet may be incomplete
  pub barriers : (i : ℕ) → suc i < known.launched → IsBarrier job (known.first + i)
      → phase_at known i ≡ machine.Phase.Complete
  pub counted : known.completed ≡ count_by is_done known.phases.items

-- the packet is one of the queue's
pub record IsOwn (known : Known) (p : ℕ) : Type 0 where
  pub place : ℕ
  pub below : place < length known.phases.items
  pub is : p ≡ known.first + place

-- The packet that was launched last is a barrier packet that isn't complete.
pub record IsHeld (job : Job) (known : Known) : Type 0 where
  pub last : ℕ
  pub launched : known.launched ≡ suc last
  pub barrier : IsBarrier job (known.first + last)
  pub incomplete : phase_at known last ≢ machine.Phase.Complete

-- Where the next packet has the barrier bit, all packets that were launched are complete.
abbrev pub BitLets : Job → Known → Type 0
BitLets job known = IsTrue (packet job (known.first + known.launched)).bit → known.completed ≡ known.launched

-- there is a next packet, and it may be launched
pub record IsReady (job : Job) (known : Known) : Type 0 where
  pub room : known.launched < length known.phases.items
  pub free : ¬ IsHeld job known
  pub lets : BitLets job known

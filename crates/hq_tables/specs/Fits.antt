-- What the tables keep while lines are added.
use Rattle.std.specs.Prelude.{◌≡◌, ◌≢◌, ℕ, ◌+◌, ◌<◌, ◌≤◌, false, length, All, AllPairs, Some, IsTrue, IfSome}
use Rattle.std.specs.Prelude.{slice_get, count_by}
use Rattle.hq_footprint.specs.Bytes.{read_entries, written_bytes}
use Rattle.hq_footprint.specs.Tasks.{Suits}
use Rattle.hq_signals.specs.Table.{OpenSignal, handles}
use Rattle.hq_model.specs.Job.{is_signal}
use Rattle.hq_model.specs.Job.Kind.{BarrierOr}
use Rattle.hq_model.specs.declared.limits.TheConstants.{BYTES, PACKETS}
use Rattle.hq_tables.specs.declared.limits.TheConstants.{AGENTS, BLOCKS, BUFFERS, KERNELS, QUEUES, SIGNALS}
use Rattle.hq_tables.specs.declared.rows.Placed.{Placed}
use Rattle.hq_tables.specs.Kinds.{kind_of}
use Rattle.hq_tables.specs.Ranges.{RangesSuit}
use Rattle.hq_tables.specs.Tables.{Tables, total_of}

-- the limits
pub record Within (ts : Tables) : Type 0 where
  pub agents : length ts.agents ≤ AGENTS
  pub buffers : length ts.buffers ≤ BUFFERS
  pub bytes : total_of ts.buffers ≤ BYTES
  pub arguments : length ts.arguments ≤ BLOCKS
  pub signals : length ts.signals ≤ SIGNALS
  pub kernels : length ts.kernels ≤ KERNELS
  pub queues : length ts.queues ≤ QUEUES
  pub packets : length ts.placed ≤ PACKETS

-- a packet's queue, bytes and signals are there, and a barrier-OR has a dependency
pub record PacketFits (ts : Tables) (p : Placed) : Type 0 where
  pub queue : p.queue < length ts.queues
  pub reads : All (λ b. b < total_of ts.buffers) (read_entries p.bytes)
  pub writes : All (λ b. b < total_of ts.buffers) (written_bytes p.bytes)
  -- as many bytes are read and written as the task asks for
  pub suits : Suits p.work.task (length (read_entries p.bytes)) (length (written_bytes p.bytes))
  pub ranges : RangesSuit p
  pub slots : All (λ slot. IfSome slot (λ k. k < length ts.signals)) p.slots
  pub done : IfSome p.done (λ k. k < length ts.signals)
  pub not_null : kind_of p.packet ≡ BarrierOr → (slot : ℕ) × (k : ℕ) × (slice_get p.slots slot ≡ Some (Some k))

-- signal k has the decrementers that stand in the table, and is waited on where a packet's slot names it
pub record SignalFits (ts : Tables) (k : ℕ) (s : OpenSignal) : Type 0 where
  pub decrementers : s.decrementers ≡ count_by (λ p. is_signal k p.done) ts.placed
  pub waited : All (λ p. (slot : ℕ) → slice_get p.slots slot ≡ Some (Some k) → IsTrue s.waited) ts.placed

-- The tables are within the limits, and all that their rows name is there. Queues have slots, no handle is 0 or stands
-- twice, each packet fits, and each signal has the notes that the packets ask for.
pub record TablesFit (ts : Tables) : Type 0 where
  pub within : Within ts
  pub current : IfSome ts.current (λ q. q < length ts.queues)
  pub agents : All (λ q. q.agent < length ts.agents) ts.queues
  pub sizes : All (λ q. 0 < q.size) ts.queues
  pub handles_apart : AllPairs (λ h g. h ≢ g) (handles ts.signals)
  pub handles_some : All (λ s. 0 < s.handle) ts.signals
  pub packets : All (PacketFits ts) ts.placed
  -- where queues are no rings, packets go to the last queue, and stand queue by queue
  pub last : ts.rings ≡ false → IfSome ts.current (λ q. q + 1 ≡ length ts.queues)
  pub rises : ts.rings ≡ false → AllPairs (λ p r. p.queue ≤ r.queue) ts.placed
  pub signals : (k : ℕ) (s : OpenSignal) → slice_get ts.signals k ≡ Some s → SignalFits ts k s

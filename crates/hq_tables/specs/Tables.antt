-- The tables that the lines of a job fill, what a line asks of the tables that stand when it comes, and what it
-- adds to them.
use Rattle.std.specs.Prelude.{◌≡◌, ◌≢◌, ℕ, ◌+◌, ◌*◌, ◌<◌, ◌≤◌, ◌⊎◌, Bool, false, ◌||◌, List, [], ◌∷◌, ◌++◌, length}
use Rattle.std.specs.Prelude.{map, find, sum_by, replicate, All, Any, Contains, count_by, Option, Some, None}
use Rattle.std.specs.Prelude.{IsNone, IfSome, unwrap_or, slice_index, ◌==◌, if◌then◌else◌}
use Rattle.std.specs.Option.{option_map}
use Rattle.std.specs.List.{flat_map, list_any, position}
use Rattle.std.specs.Str.{bytes_eq}
use Rattle.hq_packet.specs.declared.packet.Packet as packet
use Rattle.hq_packet.specs.declared.packet.Packet.TheVariants as format
use Rattle.hq_packet.specs.declared.packet.Kernel as dispatch
use Rattle.hq_packet.specs.Parts.{completion_of}
use Rattle.hq_footprint.specs.declared.task.Code.{Code}
use Rattle.hq_footprint.specs.declared.task.Code.TheVariants as code
use Rattle.hq_footprint.specs.declared.footprint.Range.{Range}
use Rattle.hq_footprint.specs.declared.footprint.Footprint.{Footprint}
use Rattle.hq_footprint.specs.declared.footprint.Work.{Work}
use Rattle.hq_footprint.specs.declared.fault.FootFault.TheVariants as foot
use Rattle.hq_footprint.specs.Bytes.{bytes_of, ranges_of, Share, Passes, IsOutside}
use Rattle.hq_footprint.specs.Table.{range, nowhere, no_work, argument_count, kernel_call, service_call}
use Rattle.hq_signals.specs.Table.{OpenSignal, opened, IsOpen}
use Rattle.hq_lines.specs.Meaning as says
use Rattle.hq_lines.specs.Meaning.{Meaning}
use Rattle.hq_tables.specs.declared.fault.Reason.{Reason}
use Rattle.hq_tables.specs.declared.fault.Reason.TheVariants as reason
use Rattle.hq_model.specs.declared.limits.TheConstants.{BYTES, PACKETS}
use Rattle.hq_tables.specs.declared.limits.TheConstants.{AGENTS, BLOCKS, BUFFERS, ITEMS, KERNELS, QUEUES, SIGNALS}
use Rattle.hq_tables.specs.declared.rows.Kernel.{Kernel}
use Rattle.hq_tables.specs.declared.rows.Queue.{Queue}
use Rattle.hq_tables.specs.declared.rows.Placed.{Placed}
use Rattle.hq_tables.specs.Blocks.{Name, Bytes}

-- what the lines so far declare, each table in the order of their lines
pub record Tables : Type 0 where
  pub rings : Bool
  pub agents : List Name
  pub buffers : List Bytes
  pub arguments : List Bytes
  pub signal_names : List Name
  pub signals : List OpenSignal
  pub kernels : List Kernel
  pub queues : List Queue
  -- the queue that packets go to
  pub current : Option ℕ
  -- the packets in the order of their lines
  pub placed : List Placed

-- the tables behind the first line, which says only whether queues are rings
abbrev pub empty : Bool → Tables
empty rings = record {
  rings = rings;
  agents = [];
  buffers = [];
  arguments = [];
  signal_names = [];
  signals = [];
  kernels = [];
  queues = [];
  current = None;
  placed = [];
}

-- ---- names, addresses and handles

-- the names of buffers or of kernarg blocks, in their order
abbrev pub names_of : List Bytes → List Name
names_of rows = map (λ b. b.name) rows

-- where they begin, likewise
abbrev pub addresses_of : List Bytes → List ℕ
addresses_of rows = map (λ b. b.at) rows

-- the number of a name, if it is there
abbrev pub number_of_name : List Name → Name → Option ℕ
number_of_name names name = position (bytes_eq name) names

-- the names of the queues, in file order
abbrev pub queue_names : Tables → List Name
queue_names ts = map (λ q. q.name) ts.queues

-- the number of the signal with a handle; a handle of 0 is none
abbrev pub signal_number : List OpenSignal → ℕ → Option ℕ
signal_number signals handle = if handle == 0 then None else position (λ s. s.handle == handle) signals

-- no earlier line declares this handle, which isn't 0
abbrev pub IsUndeclared : List OpenSignal → ℕ → Type 0
IsUndeclared signals handle = (handle ≢ 0) × ¬ IsOpen signals handle

-- the addresses that the bytes of a buffer or a block lie at, as a range
abbrev pub range_of : Bytes → Range
range_of b = range b.at (length b.bytes)

-- the addresses of all bytes of these buffers, one buffer behind the other
abbrev pub addresses : List Bytes → List ℕ
addresses buffers = flat_map (λ b. bytes_of (range_of b)) buffers

-- a byte's number is its place there
abbrev pub byte_number : List Bytes → ℕ → Option ℕ
byte_number buffers address = position (λ a. a == address) (addresses buffers)

-- a range and a footprint in byte numbers
abbrev pub range_in_bytes : List Bytes → Range → Range
range_in_bytes buffers r = if r.len == 0 then nowhere else range (unwrap_or (byte_number buffers r.at) 0) r.len

-- the footprint with byte numbers in the place of addresses, range by range
abbrev pub in_bytes : List Bytes → Footprint → Footprint
in_bytes buffers foot = record {
  reads = map
      (range_in_bytes buffers) foot.reads;
  write = range_in_bytes buffers foot.write;
}

-- how many bytes the buffers have in all
abbrev pub total_of : List Bytes → ℕ
total_of buffers = sum_by (λ b. length b.bytes) buffers

-- ---- packets

-- the dependency handles of a barrier packet, slot by slot
abbrev pub deps_of : packet.Packet → List ℕ
deps_of (format.Kernel k) = []
deps_of (format.Agent a) = []
deps_of (format.And b) = b.deps
deps_of (format.Or b) = b.deps

-- the handles in the dependency slots; those of other packets are null
abbrev pub slots_of : packet.Packet → List ℕ
slots_of (format.Kernel k) = replicate 5 0
slots_of (format.Agent a) = replicate 5 0
slots_of (format.And b) = b.deps
slots_of (format.Or b) = b.deps

-- the product of the grid sizes, of which those of unused dimensions are 1
abbrev pub items_of : dispatch.Kernel → ℕ
items_of k = slice_index k.grid 0 * slice_index k.grid 1 * slice_index k.grid 2

-- the kernel with this object, if one is declared
abbrev pub kernel_of : Tables → ℕ → Option Kernel
kernel_of ts object = find (λ k. k.object == object) ts.kernels

-- the kernarg block at this address, if one is declared
abbrev pub block_of : Tables → ℕ → Option Bytes
block_of ts address = find (λ b. b.at == address) ts.arguments

-- what the kernel with this object computes; fill, where there is no such kernel
abbrev pub code_at : Tables → ℕ → Code
code_at ts object = unwrap_or (option_map (λ k. k.code) (kernel_of ts object)) code.Fill

-- the bytes of the kernarg block at this address; none, where there is no such block
abbrev pub arguments_at : Tables → ℕ → List ℕ
arguments_at ts address = unwrap_or (option_map (λ b. b.bytes) (block_of ts address)) []

-- what a packet does, in addresses
abbrev pub work_of : Tables → packet.Packet → Work
work_of ts (format.Kernel k) = kernel_call (code_at ts k.object) (items_of k) (arguments_at ts k.kernarg)
work_of ts (format.Agent a) = unwrap_or (service_call a.kind a.args a.ret) no_work
work_of ts (format.And b) = no_work
work_of ts (format.Or b) = no_work

-- the packet in this queue, with all that it names looked up: what it does, its bytes by number, its signals by number
abbrev pub placed_of : Tables → ℕ → packet.Packet → Placed
placed_of ts queue p =
    record {
      queue = queue;
      packet = p;
      work = work_of ts p;
      bytes = in_bytes ts.buffers (work_of ts p).foot;
      slots = map (signal_number ts.signals) (slots_of p);
      done = signal_number ts.signals (completion_of p);
    }

-- a signal once a packet's completion is noted, and once its dependencies are
abbrev pub completed : ℕ → OpenSignal → OpenSignal
completed h s = record s { decrementers = s.decrementers + (if s.handle == h then 1 else 0) }

-- the signal, which is waited on from now on if one of these dependencies has its handle
abbrev pub awaited : List ℕ → OpenSignal → OpenSignal
awaited ds s = record s { waited = s.waited || list_any (λ d. s.handle == d) ds }

-- the signals once the packet's completion and dependencies are noted
abbrev pub noted_by : packet.Packet → List OpenSignal → List OpenSignal
noted_by p signals = map (λ s. awaited (deps_of p) (completed (completion_of p) s)) signals

-- ---- what a line asks

-- a reason to refuse a line, and when it applies
pub record Test : Type 1 where
  pub applies : Type 0
  pub reason : Reason

-- the test that applies where this is so, with this reason
abbrev pub when : Type 0 → Reason → Test
when applies reason = record { applies = applies; reason = reason }

-- this is the reason of the first test that applies
abbrev pub IsFirst : List Test → Reason → Type 0
IsFirst [] why = ⊥
IsFirst (t ∷ ts) why = (t.applies × (why ≡ t.reason)) ⊎ (¬ t.applies × IsFirst ts why)

-- no test applies
abbrev pub NoneApplies : List Test → Type 0
NoneApplies [] = Unit {0}
NoneApplies (t ∷ ts) = ¬ t.applies × NoneApplies ts

-- the packet is an agent dispatch, and no service has its type
abbrev pub IsUnknownService : packet.Packet → Type 0
IsUnknownService (format.Agent a) = IsNone (service_call a.kind a.args a.ret)
IsUnknownService p = ⊥

-- the packet names a kernel object, a kernarg address or a signal that no earlier line declares
abbrev pub NamesUndeclared : Tables → packet.Packet → Type 0
NamesUndeclared ts p = Unfound p ⊎ Any (IsUndeclared ts.signals) (completion_of p ∷ deps_of p) where
  Unfound : packet.Packet → Type 0
  Unfound (format.Kernel k) = IsNone (kernel_of ts k.object) ⊎ IsNone (block_of ts k.kernarg)
  Unfound p = ⊥

-- the packet is a barrier-OR, and all of its dependencies are null
abbrev pub IsNullOr : packet.Packet → Type 0
IsNullOr (format.Or b) = All (λ d. d ≡ 0) b.deps
IsNullOr p = ⊥

-- the packet is a kernel dispatch, of more work-items than a kernel may have
abbrev pub HasManyItems : packet.Packet → Type 0
HasManyItems (format.Kernel k) = ITEMS < items_of k
HasManyItems p = ⊥

-- the kernarg block is shorter than the kernel's arguments
abbrev pub HasShortBlock : Tables → packet.Packet → Type 0
HasShortBlock ts (format.Kernel k) = length (arguments_at ts k.kernarg) < 8 * argument_count (code_at ts k.object)
HasShortBlock ts p = ⊥

-- where queues are no rings, the queue that packets go to has no slot left
abbrev pub IsFull : Tables → Type 0
IsFull ts = (ts.rings ≡ false)
    × IfSome ts.current (λ q. slice_index (map (λ e. e.size) ts.queues) q ≤ count_by (λ p. p.queue == q) ts.placed)

-- whether there is room for a packet in its queue
abbrev pub place_tests : Tables → List Test
place_tests ts = when (PACKETS ≤ length ts.placed) reason.Limit
    ∷ when (IsNone ts.current) reason.Unknown
    ∷ when (IsFull ts) reason.QueueFull
    ∷ []

-- whether what it names is there, and it has something to wait for or to do
abbrev pub name_tests : Tables → packet.Packet → List Test
name_tests ts p = when (IsUnknownService p) reason.Service
    ∷ when (NamesUndeclared ts p) reason.Handle
    ∷ when (IsNullOr p) reason.NullOr
    ∷ when (HasManyItems p) reason.Items
    ∷ []

-- whether it can be told what it does
abbrev pub call_tests : Tables → packet.Packet → List Test
call_tests ts p = when (HasShortBlock ts p) (reason.Footprint foot.ArgsShort)
    ∷ when (Any Passes (ranges_of (work_of ts p).foot)) (reason.Footprint foot.Overflow)
    ∷ []

-- and whether that is within the buffers
abbrev pub work_tests : Tables → packet.Packet → List Test
work_tests ts p = call_tests ts p
    ++ when (Any (IsOutside (map range_of ts.buffers)) (ranges_of (work_of ts p).foot))
    (reason.Footprint foot.OutsideBuffer)
    ∷ []

-- all tests of a packet, in the order in which they are made
abbrev pub packet_tests : Tables → packet.Packet → List Test
packet_tests ts p = place_tests ts ++ name_tests ts p ++ work_tests ts p

-- all tests of what a line says against the tables that stand, in the order in which they are made
abbrev pub tests : Tables → Meaning → List Test
tests ts (says.Agent name) = when (AGENTS ≤ length ts.agents) reason.Limit
    ∷ when (Contains ts.agents name) reason.Duplicate
    ∷ []
tests ts (says.Buffer name at bytes) = when (BUFFERS ≤ length ts.buffers) reason.Limit
    ∷ when (BYTES < total_of ts.buffers + length bytes) reason.Limit
    ∷ when (Contains (names_of ts.buffers) name) reason.Duplicate
    ∷ when (Any (λ b. Share (bytes_of (range_of b))
    (bytes_of (range at (length bytes)))) ts.buffers) reason.BufferOverlap
    ∷ []
tests ts (says.Args name at bytes) = when (BLOCKS ≤ length ts.arguments) reason.Limit
    ∷ when (Contains (names_of ts.arguments) name) reason.Duplicate
    ∷ when (Any (λ b. b.at ≡ at) ts.arguments) reason.Duplicate
    ∷ []
tests ts (says.Signal name handle start) = when (SIGNALS ≤ length ts.signals) reason.Limit
    ∷ when (Contains ts.signal_names name) reason.Duplicate
    ∷ when (IsOpen ts.signals handle) reason.Duplicate
    ∷ []
tests ts (says.Kernel name object code) = when (KERNELS ≤ length ts.kernels) reason.Limit
    ∷ when (Contains (map (λ k. k.name) ts.kernels) name) reason.Duplicate
    ∷ when (Any (λ k. k.object ≡ object) ts.kernels) reason.Duplicate
    ∷ []
tests ts (says.Queue name agent size) = when (QUEUES ≤ length ts.queues) reason.Limit
    ∷ when (Contains (queue_names ts) name) reason.Duplicate
    ∷ when (¬ Contains ts.agents agent) reason.Unknown
    ∷ []
tests ts (says.To name) = when (ts.rings ≡ false) reason.Word
    ∷ when (¬ Contains (queue_names ts) name) reason.Unknown
    ∷ []
tests ts (says.Packet p) = packet_tests ts p
tests ts says.End = []

-- ---- what a line adds

-- the tables with the packet in the queue that packets go to, its completion and dependencies noted at the signals
abbrev pub with_packet : Tables → packet.Packet → Tables
with_packet ts p =
    record ts {
      placed = ts.placed ++ placed_of ts (unwrap_or ts.current 0) p ∷ [];
      signals = noted_by p ts.signals;
    }

-- the tables with what the line says; `end` adds nothing
abbrev pub added : Tables → Meaning → Tables
added ts (says.Agent name) = record ts { agents = ts.agents ++ name ∷ [] }
added ts (says.Buffer name at bytes) = record ts
    { buffers = ts.buffers ++ record { name = name; at = at; bytes = bytes } ∷ [] }
added ts (says.Args name at bytes) = record ts
    { arguments = ts.arguments ++ record { name = name; at = at; bytes = bytes } ∷ [] }
added ts (says.Signal name handle start) = record ts
    { signal_names = ts.signal_names ++ name ∷ []; signals = ts.signals ++ opened handle start ∷ [] }
added ts (says.Kernel name object code) = record ts
    { kernels = ts.kernels ++ record { name = name; object = object; code = code } ∷ [] }
-- the packets that follow go to the new queue
added ts (says.Queue name agent size) =
    record ts {
      queues = ts.queues ++ record {
        name = name;
        agent = unwrap_or
            (number_of_name ts.agents agent) 0;
        size = size;
      } ∷ [];
      current = Some (length ts.queues);
    }
added ts (says.To name) = record ts { current = number_of_name (queue_names ts) name }
added ts (says.Packet p) = with_packet ts p
added ts says.End = ts

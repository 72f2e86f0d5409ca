-- Settings of a job: the barrier bit and the scopes of the two fences of each packet. Jobs that differ in nothing
-- else are one job in different settings. Raising and lowering settings, and what that leaves, is this project's
-- own.
use Rattle.std.specs.Prelude.{◌≡◌, ◌≢◌, ◌↔◌, ℕ, IsTrue, true, false, List, map, slice_set}
use Rattle.hq_packet.specs.declared.packet.Head.{Head}
use Rattle.hq_packet.specs.declared.packet.Scope.{Scope}
use Rattle.hq_packet.specs.declared.packet.Scope.TheVariants as scope
use Rattle.hq_model.specs.Job.{Job, Packet, packet, IsPacket}
use Rattle.hq_packet.specs.Scopes.{reaches}
use Rattle.hq_model.specs.Order.{Before, OrderList, StuckSet}
use Rattle.hq_model.specs.Fence.{Conflict, Conflicts, ShownFor, Release, Acquire, Ordered}
use Rattle.hq_model.specs.OneByOne.{one_by_one, given}
use Rattle.hq_model.specs.Theorems.{Valid}

-- ---- heads

-- the packet's bit and scopes
abbrev pub head_of : Packet → Head
head_of e = record { barrier = e.bit; acquire = e.acquire; release = e.release }

-- the packet with this bit and these scopes, and all else as it was
abbrev pub packet_with_head : Packet → Head → Packet
packet_with_head e head = record e { bit = head.barrier; acquire = head.acquire; release = head.release }

-- the bit and scopes of packet p
abbrev pub head_at : Job → ℕ → Head
head_at job p = head_of (packet job p)

-- the job in which packet p has this head, and all else is as it was
abbrev pub with_head : Job → ℕ → Head → Job
with_head job p head = record job { packets = slice_set job.packets p (packet_with_head (packet job p) head) }

-- the job in which every packet has this head, and all else is as it was
abbrev pub with_each : Job → Head → Job
with_each job head = record job { packets = map (λ e. packet_with_head e head) job.packets }

-- no bit and no fence, and the bit and both fences of system scope
abbrev pub no_head : Head
no_head = record { barrier = false; acquire = scope.None; release = scope.None }

-- the bit and both fences of system scope
abbrev pub full_head : Head
full_head = record { barrier = true; acquire = scope.System; release = scope.System }

-- the lowest setting of the job, and the highest
abbrev pub lowest : Job → Job
lowest job = with_each job no_head

-- the job in its highest setting: each packet has the bit and both fences of system scope
abbrev pub highest : Job → Job
highest job = with_each job full_head

-- The jobs differ in nothing but heads: without these they are one job.
abbrev pub SameButHeads : Job → Job → Type 0
SameButHeads j k = lowest j ≡ lowest k

-- ---- higher and lower

-- h is at or above g: it has the bit where g has it, and each of its scopes reaches as far as that of g.
pub record HeadRaises (g h : Head) : Type 0 where
  pub bit : IsTrue g.barrier → IsTrue h.barrier
  pub acquire : IsTrue (reaches h.acquire g.acquire)
  pub release : IsTrue (reaches h.release g.release)

-- k is at or above j: they differ in nothing but heads, and the head of each packet in k is at or above that in j.
pub record Raises (j k : Job) : Type 0 where
  pub same : SameButHeads j k
  pub heads : (p : ℕ) → HeadRaises (head_at j p) (head_at k p)

-- the parts of a head
pub data Part : Type 0 where
  Bit AcquireScope ReleaseScope : Part

-- the scope one level lower: system, then agent, then none
abbrev pub scope_below : Scope → Scope
scope_below scope.None = scope.None
scope_below scope.Agent = scope.None
scope_below scope.System = scope.Agent

-- the head with one part one level lower: without the bit, or with a scope one level lower
abbrev pub lowered : Part → Head → Head
lowered Bit head = record head { barrier = false }
lowered AcquireScope head = record head { acquire = scope_below head.acquire }
lowered ReleaseScope head = record head { release = scope_below head.release }

-- this part of the head isn't at its lowest
abbrev pub IsRaised : Part → Head → Type 0
IsRaised Bit head = IsTrue head.barrier
IsRaised AcquireScope head = head.acquire ≢ scope.None
IsRaised ReleaseScope head = head.release ≢ scope.None

-- m is k with one part of one packet's head one level lower.
pub record Lowers (k m : Job) : Type 0 where
  pub p : ℕ
  pub is_packet : IsPacket k p
  pub part : Part
  pub raised : IsRaised part (head_at k p)
  pub job_is : m ≡ with_head k p (lowered part (head_at k p))

-- No lowering of k is ordered.
abbrev pub NoneLowers : Job → Type 0
NoneLowers k = (m : Job) → Lowers k m → ¬ Ordered m

-- ---- the laws: what heads leave as it is

-- Order lists and stuck sets are the same in each setting: the bit never makes a packet wait for one that it
-- doesn't follow in its queue, and order lists have each queue in its order, with bits and without.
abbrev pub HeadsLeaveLists : Type 0
HeadsLeaveLists = (j k : Job) (list : List ℕ) → SameButHeads j k
    → (OrderList j list ↔ OrderList k list) × (StuckSet j list ↔ StuckSet k list)

-- So are the conflicts.
abbrev pub HeadsLeaveConflicts : Type 0
HeadsLeaveConflicts = (j k : Job) (kind : Conflict) (p r : ℕ) → SameButHeads j k → Conflicts j kind p r
    ↔ Conflicts k kind p r

-- So is whether the tables fit.
abbrev pub HeadsLeaveValid : Type 0
HeadsLeaveValid = (j k : Job) → SameButHeads j k → Valid j ↔ Valid k

-- So is what comes of the packets one at a time: the bytes that each is given, and those that are left.
abbrev pub HeadsLeaveResults : Type 0
HeadsLeaveResults = (j k : Job) (list : List ℕ) → SameButHeads j k
    → ((b : ℕ) → one_by_one j list b ≡ one_by_one k list b) × ((p : ℕ) → given j list p ≡ given k list p)

-- ---- the laws: what raising brings

-- What comes before in a setting does so in each above it.
abbrev pub RaisingOrders : Type 0
RaisingOrders = (j k : Job) (p r : ℕ) → Raises j k → Before j p r → Before k p r

-- What is shown of a conflict in a setting is shown in each above it, by the same fences.
pub record ShowsAsMuch (j k : Job) (p r : ℕ) : Type 0 where
  pub release : (x x2 : ℕ) → Release j p r x x2 → Release k p r x x2
  pub acquire : (y2 y : ℕ) → Acquire j p r y2 y → Acquire k p r y2 y
  pub shown : (kind : Conflict) → ShownFor j kind p r → ShownFor k kind p r

-- Whatever is shown of two packets in a setting is shown of them in each at or above it.
abbrev pub RaisingShows : Type 0
RaisingShows = (j k : Job) (p r : ℕ) → Raises j k → ShowsAsMuch j k p r

-- Each setting above an ordered one is ordered.
abbrev pub RaisedIsOrdered : Type 0
RaisedIsOrdered = (j k : Job) → Raises j k → Ordered j → Ordered k

-- And each below one that isn't ordered isn't.
abbrev pub RefusedStaysRefused : Type 0
RefusedStaysRefused = (j k : Job) → Raises j k → ¬ Ordered k → ¬ Ordered j

-- Some setting at or above this one is ordered exactly where the highest is.
abbrev pub SomeRaisedIsOrdered : Type 0
SomeRaisedIsOrdered = (j : Job) → ((k : Job) × Raises j k × Ordered k) ↔ Ordered (highest j)

-- ---- the laws: how settings lie

-- The highest setting of a job is at or above each of its settings.
abbrev pub HighestIsHighest : Type 0
HighestIsHighest = (j k : Job) → SameButHeads j k → Raises k (highest j)

-- The lowest setting of a job is at or below each of its settings.
abbrev pub LowestIsLowest : Type 0
LowestIsLowest = (j k : Job) → SameButHeads j k → Raises (lowest j) k

-- Each setting is at or above itself; one that is at or above a second is at or above all that the second is; and two
-- that are at or above each other are the same.
pub record RaisingIsPartialOrder : Type 0 where
  pub reflexive : (j : Job) → Raises j j
  pub transitive : (j k m : Job) → Raises j k → Raises k m → Raises j m
  pub antisymmetric : (j k : Job) → Raises j k → Raises k j → j ≡ k

-- Where packet p is given a head, it has that head, and nothing else changes. The job is lower where the head is,
-- and higher where the head is; and a job that is below stays so where its head is at or below that one.
pub record HeadIsSet (j : Job) (p : ℕ) (head : Head) : Type 0 where
  pub same : SameButHeads j (with_head j p head)
  pub here : head_at (with_head j p head) p ≡ head
  pub others : (r : ℕ) → r ≢ p → packet (with_head j p head) r ≡ packet j r
  pub lower : HeadRaises head (head_at j p) → Raises (with_head j p head) j
  pub higher : HeadRaises (head_at j p) head → Raises j (with_head j p head)
  pub above : (i : Job) → Raises i j → HeadRaises (head_at i p) head → Raises i (with_head j p head)

-- So it is of each packet of each job, and of each head that it is given.
abbrev pub HeadsAreSet : Type 0
HeadsAreSet = (j : Job) (p : ℕ) (head : Head) → IsPacket j p → HeadIsSet j p head

-- A lowering lies below, and is another setting.
abbrev pub LoweredIsLower : Type 0
LoweredIsLower = (k m : Job) → Lowers k m → Raises m k × (m ≢ k)

-- Where no lowering of a setting is ordered, no other setting below it is.
abbrev pub StepsSuffice : Type 0
StepsSuffice = (j k : Job) → NoneLowers k → Raises j k → Ordered j → j ≡ k

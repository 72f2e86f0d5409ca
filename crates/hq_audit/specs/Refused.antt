-- Pairs of packets that are ordered, and the first that isn't.
use Rattle.std.specs.Prelude.{◌≡◌, ℕ, ◌<◌, ◌⊎◌, List}
use Rattle.hq_fence.specs.Judgement.{Shows, IsNotShown}
use Rattle.hq_model.specs.Job.{Job, IsPacket}
use Rattle.hq_model.specs.Order.{Before, OrderList}
use Rattle.hq_schedule.specs.Placing.{AreStuck}
use Rattle.hq_waits.specs.declared.fault.OrderFault.{OrderFault}
use Rattle.hq_waits.specs.declared.fault.OrderFault.TheVariants as order
use Rattle.hq_audit.specs.declared.fault.AuditNo.{AuditNo}
use Rattle.hq_audit.specs.declared.fault.AuditNo.TheVariants as audit
use Rattle.hq_model.specs.Fence.{Shown}
use Rattle.hq_audit.specs.declared.directed.Directed.{Directed}
use Rattle.hq_audit.specs.declared.directed.Unshown.{Unshown}

-- All conflicts of the two are ordered, with the one or with the other first.
abbrev pub ShownOneWay : Job → ℕ → ℕ → Type 0
ShownOneWay job a b = Shown job a b ⊎ Shown job b a

-- so it is for the pairs of a with each packet above it, up to b
abbrev pub RowShown : Job → ℕ → ℕ → Type 0
RowShown job a b = (s : ℕ) → a < s → s < b → IsPacket job s → ShownOneWay job a s

-- and for all pairs whose lesser packet is below a
abbrev pub RowsShown : Job → ℕ → Type 0
RowsShown job a = (q s : ℕ) → q < a → q < s → IsPacket job s → ShownOneWay job q s

-- and for all pairs
abbrev pub AllShown : Job → Type 0
AllShown job = (q s : ℕ) → q < s → IsPacket job s → ShownOneWay job q s

-- a and b, in the direction in which all conflicts are ordered
pub record IsDirected (job : Job) (a b : ℕ) (d : Directed) : Type 0 where
  pub which : ((d.first ≡ a) × (d.second ≡ b)) ⊎ ((d.first ≡ b) × (d.second ≡ a))
  pub shows : Shows job d.first d.second d.shown
  pub shown : Shown job d.first d.second

-- The pair a, b is ordered in neither direction. It is told of with b first where b is before a, and else with a
-- first, by the first kind of conflict that isn't ordered in that direction, and why.
pub record IsUnshown (job : Job) (a b : ℕ) (u : Unshown) : Type 0 where
  pub neither : ¬ ShownOneWay job a b
  pub which : (Before job b a × (u.p ≡ b) × (u.r ≡ a)) ⊎ ((¬ Before job b a) × (u.p ≡ a) × (u.r ≡ b))
  pub fault : IsNotShown job u.p u.r u.fault

-- The pair is ordered in neither direction, and is told of with p first.
pub record IsUntold (job : Job) (p r : ℕ) (u : Unshown) : Type 0 where
  pub neither : ¬ ShownOneWay job p r
  pub first : u.p ≡ p
  pub second : u.r ≡ r
  pub fault : IsNotShown job p r u.fault

-- The pair of a that is told of is ordered in neither direction, and those of a with lesser packets above it are
-- ordered.
pub record IsFirstOfRow (job : Job) (a : ℕ) (u : Unshown) : Type 0 where
  pub b : ℕ
  pub above : a < b
  pub is_packet : IsPacket job b
  pub unshown : IsUnshown job a b u
  pub first : RowShown job a b

-- The pair that is told of is the first in number order, the lesser packet first, that is ordered in neither direction.
pub record IsFirstUnshown (job : Job) (u : Unshown) : Type 0 where
  pub a : ℕ
  pub row : IsFirstOfRow job a u
  pub rows : RowsShown job a

-- ---- what is answered

-- why there is no order list, as an answer
abbrev pub no_of_order : OrderFault → AuditNo
no_of_order (order.Stuck packets) = audit.Stuck packets
no_of_order order.Memory = audit.Memory

-- the conflict that isn't ordered, as an answer
abbrev pub no_of_pair : Unshown → AuditNo
no_of_pair u = audit.Conflict u.p u.r u.fault.kind u.fault.why

-- A list of stuck packets is the right one. Where a conflict is told of there is an order list, and the conflict is
-- the first that isn't ordered.
abbrev pub IsRefused : Job → AuditNo → Type 0
IsRefused job (audit.Stuck packets) = AreStuck job packets.items
IsRefused job (audit.Conflict p r kind why) = ((list : List ℕ) × OrderList job list)
    × IsFirstUnshown job (record { p = p; r = r; fault = record { kind = kind; why = why } })
IsRefused job audit.Memory = Unit {0}

-- ---- what each part answers

-- There is no memory, or this is what isn't ordered, as an answer.
abbrev pub NoOrMemory : (Unshown → Type 0) → AuditNo → Type 0
NoOrMemory Is answer = (answer ≡ audit.Memory) ⊎ ((u : Unshown) × (answer ≡ no_of_pair u) × Is u)

-- so it is for a pair, for those of a packet with all above it, and for all
abbrev pub PairRefused : Job → ℕ → ℕ → AuditNo → Type 0
PairRefused job a b = NoOrMemory (IsUnshown job a b)

-- There is no memory, or this is the first pair of a with a packet above it that isn't ordered, as an answer.
abbrev pub RowRefused : Job → ℕ → AuditNo → Type 0
RowRefused job a = NoOrMemory (IsFirstOfRow job a)

-- There is no memory, or this is the first of all pairs in number order that isn't ordered, as an answer.
abbrev pub AllRefused : Job → AuditNo → Type 0
AllRefused job = NoOrMemory (IsFirstUnshown job)

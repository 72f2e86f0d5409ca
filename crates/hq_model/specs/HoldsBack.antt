-- Which packets wait for which in every run of a job without rings, and where the order relation says exactly that.
use Rattle.std.specs.Prelude.{◌≡◌, ℕ, ◌↔◌, ◌≢◌, false, List, ◌∷◌}
use Rattle.hq_model.specs.Job.{Job, packet, IsPacket, Dependency, Decrements}
use Rattle.hq_model.specs.Job.Kind.{BarrierOr}
use Rattle.hq_model.specs.Order.{ByBit, ByQueue, ByAnd, AwaitsAny, Whichever, Before, Ahead, In, OrderList}
use Rattle.hq_model.specs.Machine.{State, Event, Run}
use Rattle.hq_model.specs.Machine.Phase.{Complete}
use Rattle.hq_model.specs.Theorems.{Valid, HasBegun}

-- In every run p is complete wherever r has begun.
abbrev pub AlwaysBefore : Job → ℕ → ℕ → Type 0
AlwaysBefore job p r =
    (events : List Event) (state : State) → Run job events state → HasBegun state r → state.phase p ≡ Complete

-- Some packet of the set has to be complete before r begins, by one rule of the order alone.
pub data NeedsOneOf (job : Job) (set : List ℕ) (r : ℕ) : Type 0 where
  for_bit : (e j : ℕ) → ByBit job e r j → In set e → NeedsOneOf job set r
  for_queue : (e : ℕ) → ByQueue job e r → In set e → NeedsOneOf job set r
  for_and : (d slot s : ℕ) → ByAnd job d r slot s → In set d → NeedsOneOf job set r
  for_or : AwaitsAny job r → Whichever job r (λ s. (d : ℕ) × Decrements job d s × In set d) → NeedsOneOf job set r

-- r stands in a set of packets, each of which needs p or another of the set: none of them begins until p is complete.
pub record HoldsBack (job : Job) (p r : ℕ) : Type 0 where
  pub set : List ℕ
  pub member : In set r
  pub needs : (x : ℕ) → In set x → NeedsOneOf job (p ∷ set) x

-- An order list in which each barrier-OR comes after all that complete on any of its dependencies.
pub record FullOrderList (job : Job) (list : List ℕ) : Type 0 where
  pub order : OrderList job list
  pub branches : (r slot s d : ℕ) → (packet job r).kind ≡ BarrierOr → Dependency job r slot s → Decrements job d s
      → Ahead list d r

-- ---- the laws

-- Without rings, p is always complete before r begins exactly where it holds r back.
abbrev pub HoldsBackExact : Type 0
HoldsBackExact =
    (job : Job) → Valid job → job.rings ≡ false → (p r : ℕ) → IsPacket job p → IsPacket job r → p ≢ r
    → (HoldsBack job p r ↔ AlwaysBefore job p r)

-- Without rings, and where a full order list exists, p is always complete before r begins exactly where it is before r.
abbrev pub FullOrderExact : Type 0
FullOrderExact =
    (job : Job) (list : List ℕ) → Valid job → job.rings ≡ false → FullOrderList job list
    → (p r : ℕ) → IsPacket job p → IsPacket job r → p ≢ r → (Before job p r ↔ AlwaysBefore job p r)

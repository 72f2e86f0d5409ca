-- What the search for an order list keeps.
use Rattle.std.specs.Prelude.{◌≡◌, ℕ, ◌<◌, ◌≤◌, ◌↔◌, IsTrue, List, length, slice_index}
use Rattle.std.specs.Global.{Vec}
use Rattle.hq_model.specs.Job.{Job, packet, IsPacket, Dependency, Earlier, Decrements, Frees}
use Rattle.hq_model.specs.Job.Kind.{BarrierAnd, BarrierOr}
use Rattle.hq_model.specs.Order.{In, FreesFor, OrderList, Stuck}
use Rattle.hq_bits.specs.Bits.{has}
use Rattle.hq_rows.specs.Lists.{AllAre}
use Rattle.hq_waits.specs.Waits.{OfDependencies}

-- the row is the set of the packets that free a slot of one of the first submissions, up to the k-th
pub record Freeing (job : Job) (k : ℕ) (row : List ℕ) : Type 0 where
  pub are : (e : ℕ) → IsTrue (has row e) ↔ ((i : ℕ) × (i ≤ k) × Frees job e (slice_index job.submissions i))

-- Where queues are rings, each submission has the set of the packets that free its slot or that of one before it, in so
-- many words.
pub record CanFree (job : Job) (words : ℕ) (sets : List (Vec ℕ)) : Type 0 where
  pub rows : IsTrue job.rings → AllAre (λ k set. Freeing job k set.items × (length set.items ≡ words)) sets
  pub count : IsTrue job.rings → length sets ≡ length job.submissions

-- Where queues are rings, each packet has the set of the packets that its slot waits for, in so many words.
pub record AreSlots (job : Job) (words : ℕ) (sets : List (Vec ℕ)) : Type 0 where
  pub rows : IsTrue job.rings
      → AllAre (λ p set. ((e : ℕ) → IsTrue (has set.items e) ↔ FreesFor job e p) × (length set.items ≡ words)) sets
  pub count : IsTrue job.rings → length sets ≡ length job.packets

-- p stays behind e, whatever else comes ahead of it
pub data StaysBehind (job : Job) (p e : ℕ) : Type 0 where
  by_queue : Earlier job e p → StaysBehind job p e
  by_slot : FreesFor job e p → StaysBehind job p e
  by_and : (packet job p).kind ≡ BarrierAnd → OfDependencies job p e → StaysBehind job p e

-- all that complete on the signal have come
abbrev pub IsOver : Job → List ℕ → ℕ → Type 0
IsOver job come s = (d : ℕ) → Decrements job d s → IsTrue (has come d)

-- a dependency of p is over
abbrev pub OneIsOver : Job → List ℕ → ℕ → Type 0
OneIsOver job come p = (slot : ℕ) × (s : ℕ) × Dependency job p slot s × IsOver job come s

-- p waits for no signal that isn't over: a barrier-AND for none, a barrier-OR not for all
pub record WaitIsOver (job : Job) (come : List ℕ) (p : ℕ) : Type 0 where
  pub ands : (packet job p).kind ≡ BarrierAnd → (e : ℕ) → OfDependencies job p e → IsTrue (has come e)
  pub ors : (packet job p).kind ≡ BarrierOr → OneIsOver job come p

-- with each packet the set has those that stand before it in its queue
abbrev pub HasAhead : Job → List ℕ → Type 0
HasAhead job come = (e r : ℕ) → Earlier job e r → IsTrue (has come r) → IsTrue (has come e)

-- p may come next, where the packets of the set have come
pub record MayFollow (job : Job) (come : List ℕ) (p : ℕ) : Type 0 where
  pub is_packet : IsPacket job p
  pub new : IsTrue (has come p) → ⊥
  pub needs : (e : ℕ) → StaysBehind job p e → IsTrue (has come e)
  pub ors : (packet job p).kind ≡ BarrierOr → OneIsOver job come p

-- the set of what has come is that of the list
pub record HasCome (come list : List ℕ) : Type 0 where
  pub same : (p : ℕ) → IsTrue (has come p) ↔ In list p

-- The list has exactly the packets that can never complete, and there is no order list.
pub record AreStuck (job : Job) (list : List ℕ) : Type 0 where
  pub some : 0 < length list
  pub stuck : (p : ℕ) → In list p ↔ Stuck job p
  pub rising : (i j : ℕ) → i < j → j < length list → slice_index list i < slice_index list j
  pub no_order : (order : List ℕ) → OrderList job order → ⊥

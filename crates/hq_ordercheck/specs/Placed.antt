-- Order lists by tables: each packet's place in a list.
use Rattle.std.specs.Prelude.{◌≡◌, ℕ, ◌<◌, ◌≤◌, ◌↔◌, List, length, slice_index, slice_index_or, Option, None, Some}
use Rattle.std.specs.Prelude.{IfSome}
use Rattle.hq_model.specs.Job.{Job, packet, IsPacket, Earlier, Dependency, Decrements, Frees}
use Rattle.hq_model.specs.Job.Kind.{BarrierAnd, BarrierOr}
use Rattle.hq_model.specs.Order.{place}

-- The table has f's values of the numbers below n.
pub record IsTable (n : ℕ) (f : ℕ → ℕ) (table : List ℕ) : Type 0 where
  pub count : length table ≡ n
  pub at : (p : ℕ) → p < n → slice_index table p ≡ f p

-- The table has each packet's place in the list.
abbrev pub ArePlaces : Job → List ℕ → List ℕ → Type 0
ArePlaces job list table = IsTable (length job.packets) (place list) table

-- By the table, p stands ahead of r.
abbrev pub StandsAhead : List ℕ → ℕ → ℕ → Type 0
StandsAhead places p r = slice_index places p < slice_index places r

-- From one packet to another the places rise.
abbrev pub RisesOn : List ℕ → ℕ → ℕ → Type 0
RisesOn places start stop = (p r : ℕ) → start ≤ p → p < r → r < stop → StandsAhead places p r

-- The packets of a queue stand in its order.
abbrev pub KeepsQueue : Job → List ℕ → ℕ → Type 0
KeepsQueue job places queue = (p r : ℕ) → Earlier job p r → (packet job r).queue ≡ queue → StandsAhead places p r

-- For each signal, the last place at which a packet completes on it, if one does.
pub record AreLasts (job : Job) (places : List ℕ) (count : ℕ) (lasts : List (Option ℕ)) : Type 0 where
  pub len : length lasts ≡ count
  pub last : (s b : ℕ) → IfSome (slice_index_or lasts s None) (λ l. l < b)
      ↔ ((d : ℕ) → Decrements job d s → slice_index places d < b)

-- The place is noted for the signal, if there is one.
pub record IsNoted (old new : List (Option ℕ)) (done : Option ℕ) (place : ℕ) : Type 0 where
  pub len : length new ≡ length old
  pub here : (s b : ℕ) → done ≡ Some s → IfSome (slice_index_or new s None) (λ l. l < b)
      ↔ (IfSome (slice_index_or old s None) (λ l. l < b) × (place < b))
  pub elsewhere : (s : ℕ) → (done ≡ Some s → ⊥) → slice_index_or new s None ≡ slice_index_or old s None

-- Whatever completes on the signal stands ahead of r.
abbrev pub IsOverBefore : Job → List ℕ → ℕ → ℕ → Type 0
IsOverBefore job places s r = (d : ℕ) → Decrements job d s → StandsAhead places d r

-- All dependencies of r are over ahead of it.
abbrev pub AllAreOver : Job → List ℕ → ℕ → Type 0
AllAreOver job places r = (slot s : ℕ) → Dependency job r slot s → IsOverBefore job places s r

-- One of them is.
abbrev pub OneIsOver : Job → List ℕ → ℕ → Type 0
OneIsOver job places r = (slot : ℕ) × (s : ℕ) × Dependency job r slot s × IsOverBefore job places s r

-- What r waits for is over ahead of it.
pub record HasWaited (job : Job) (places : List ℕ) (r : ℕ) : Type 0 where
  pub ands : (packet job r).kind ≡ BarrierAnd → AllAreOver job places r
  pub ors : (packet job r).kind ≡ BarrierOr → OneIsOver job places r

-- Where p frees m's slot, it stands ahead of m and of all that are submitted after m.
abbrev pub HasSlot : Job → List ℕ → List ℕ → ℕ → Type 0
HasSlot job turns places m = (p r : ℕ) → Frees job p m → IsPacket job r → slice_index turns m ≤ slice_index turns r
    → StandsAhead places p r

-- By the tables of places and of turns of submission, a list of all packets is an order list.
pub record KeepsOrder (job : Job) (turns places : List ℕ) : Type 0 where
  pub queues : (p r : ℕ) → Earlier job p r → StandsAhead places p r
  pub waits : (r : ℕ) → IsPacket job r → HasWaited job places r
  pub slots : (m : ℕ) → IsPacket job m → HasSlot job turns places m

-- What is known of a job before anything is written.
use Rattle.std.specs.Prelude.{◌≡◌, ℕ, ◌<◌, ◌≤◌, ◌↔◌, IsTrue, false, List, length, slice_index}
use Rattle.std.specs.Global.{Vec}
use Rattle.hq_model.specs.Job.{Job, IsPacket, Dependency, Decrements, Frees}
use Rattle.hq_model.specs.Order as order
use Rattle.hq_model.specs.Order.{OrderList, place}
use Rattle.hq_model.specs.declared.limits.TheConstants.{PACKETS}
use Rattle.hq_bits.specs.declared.TheConstants.{WORDS}
use Rattle.hq_bits.specs.Bits.{has}
use Rattle.hq_rows.specs.Matrix.{Marks, row}
use Rattle.hq_rows.specs.Lists.{AllAre}
use Rattle.hq_parts.specs.Parts.{AreParts}
use Rattle.hq_graph.specs.Order.{IsStep}
use Rattle.hq_graph.specs.declared.stuck.Stuck.{Stuck}
use Rattle.hq_graph.specs.declared.sight.Sight.{Sight}

-- the row of each packet has the packets from which a step leads to it
pub record AreSteps (job : Job) (rows : List (Vec ℕ)) : Type 0 where
  pub height : length rows ≡ length job.packets
  pub width : (r : ℕ) → IsPacket job r → length (row rows r) ≤ WORDS
  pub exact : (p r : ℕ) → IsPacket job r → Marks rows p r ↔ IsStep job p r

-- a packet of the set has the slot of r
abbrev pub HasNoSlot : Job → List ℕ → ℕ → Type 0
HasNoSlot job set r = (q : ℕ) × IsTrue (has set q) × Frees job q r

-- When each packet is submitted, and the first turn at which a packet of the set has the slot: none from there on
-- is submitted. Where there is no such turn it is the number of turns.
pub record AreTurns (job : Job) (set turns : List ℕ) (barred : ℕ) : Type 0 where
  pub count : length turns ≡ length job.packets
  pub are : AllAre (λ p turn. turn ≡ place job.submissions p) turns
  pub upto : barred ≤ length job.submissions
  pub there : barred < length job.submissions → HasNoSlot job set (slice_index job.submissions barred)
  pub first : (k : ℕ) → k < barred → ¬ HasNoSlot job set (slice_index job.submissions k)

-- the set is that of the packets that can never complete; it is told whether there are such, and if so which
-- packets are never submitted
pub record TellsStuck (job : Job) (stuck : Stuck) : Type 0 where
  pub each : (p : ℕ) → IsTrue (has stuck.row.items p) ↔ order.Stuck job p
  pub some : IsTrue stuck.some → (p : ℕ) × order.Stuck job p
  pub ordered : stuck.some ≡ false → (list : List ℕ) × OrderList job list
  pub free : stuck.some ≡ false → (p : ℕ) → order.Stuck job p → ⊥
  pub turns : IsTrue stuck.some → AreTurns job stuck.row.items stuck.turns.items stuck.barred

-- the steps, the parts and the set are those of the order's job
pub record Sees (s : Sight) : Type 0 where
  pub few : length s.before.now.packets ≤ PACKETS
  pub steps : AreSteps s.before.now s.steps.now
  pub parts : AreParts s.before.now s.parts.now
  pub stuck : TellsStuck s.before.now s.stuck.now

-- p completes on a signal that a slot of r names
pub record Completes (job : Job) (p r s : ℕ) : Type 0 where
  pub named : (slot : ℕ) × Dependency job r slot s
  pub decrements : Decrements job p s

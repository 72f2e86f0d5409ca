-- What a graph shows: steps of the order, conflicts, and what stuck packets wait for.
use Rattle.std.specs.Prelude.{◌≡◌, ℕ, suc, List}
use Rattle.hq_model.specs.Job.{Job, Earlier, IsBarrier, Dependency, Decrements, Frees}
use Rattle.hq_model.specs.Order.{ByBit, ByQueue, ByAnd, AwaitsAny, Whichever, Before, Branch, FreesFor, OrderList}
use Rattle.hq_model.specs.Order.{Stuck, place}
use Rattle.hq_model.specs.Fence.{Ordered}
use Rattle.hq_graph.specs.declared.rule.Rule.{Rule}
use Rattle.hq_graph.specs.declared.rule.Rule.TheVariants as rule
use Rattle.hq_graph.specs.declared.wait.Wait.{Wait}
use Rattle.hq_graph.specs.declared.wait.Wait.TheVariants as wait
use Rattle.hq_finding.specs.declared.found.Found.{Found}
use Rattle.hq_finding.specs.declared.found.Found.TheVariants as found

-- p is before r, and no packet is between them: a pair of the order's transitive reduction. A packet of a circle,
-- which no job with an order list has, is before itself and so between itself and any other: no step begins or ends
-- there.
pub record IsStep (job : Job) (p r : ℕ) : Type 0 where
  pub before : Before job p r
  pub none_between : (m : ℕ) → Before job p m → Before job m r → ⊥

-- This rule alone puts p before r: the barrier bit of j, which is r or stands ahead of it; a barrier packet that
-- stands ahead in r's queue; a dependency of a barrier-AND; or the dependencies of a barrier-OR, all of which have
-- p complete.
abbrev pub IsRule : Job → ℕ → ℕ → Rule → Type 0
IsRule job p r (rule.Bit j) = ByBit job p r j
IsRule job p r rule.Queue = ByQueue job p r
IsRule job p r (rule.And s) = (slot : ℕ) × ByAnd job p r slot s
IsRule job p r rule.Or = AwaitsAny job r × Whichever job r (Branch job p)

-- Some rule alone puts p before r.
abbrev pub HasRule : Job → ℕ → ℕ → Type 0
HasRule job p r = (by : Rule) × IsRule job p r by

-- p is never submitted: a packet that can never complete has its slot, or the slot of a packet that is submitted
-- before it.
abbrev pub NeverSubmitted : Job → ℕ → Type 0
NeverSubmitted job p = (q : ℕ) × Stuck job q × FreesFor job q p

-- What r can't do without p, which stands in its way: p stands right ahead of it in its queue, has its slot of the
-- ring, completes on a signal that it waits for, or comes right ahead of it in the order of submission and is never
-- submitted.
abbrev pub WaitsBy : Job → ℕ → ℕ → Wait → Type 0
WaitsBy job p r wait.Ahead = Earlier job p r × (suc p ≡ r)
WaitsBy job p r wait.Slot = Frees job p r
WaitsBy job p r (wait.Signal s) = IsBarrier job r × ((slot : ℕ) × Dependency job r slot s) × Decrements job p s
WaitsBy job p r wait.Turn = (suc (place job.submissions p) ≡ place job.submissions r) × NeverSubmitted job p

-- two packets that can never complete, the second of which waits for the first
pub record Awaits (job : Job) (p r : ℕ) (by : Wait) : Type 0 where
  pub first : Stuck job p
  pub second : Stuck job r
  pub waits : WaitsBy job p r by

-- what an audit of the job would find
abbrev pub IsFound : Job → Found → Type 0
IsFound job found.Ordered = Ordered job
IsFound job found.Conflict = (¬ Ordered job) × ((list : List ℕ) × OrderList job list)
IsFound job found.Stuck = (p : ℕ) × Stuck job p

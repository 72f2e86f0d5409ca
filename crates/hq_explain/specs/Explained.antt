-- Whole explanations: what is written of a job, and what is answered.
use Rattle.std.specs.Prelude.{◌≢◌, ℕ, ◌<◌, Bool, true, false, if◌then◌else◌, List, length}
use Rattle.hq_job.specs.Value.{JobValue}
use Rattle.hq_model.specs.Job.{Job, IsPacket}
use Rattle.hq_model.specs.Order.{OrderList, Stuck}
use Rattle.hq_graph.specs.Graph.{Is, Each, Where}
use Rattle.hq_fence.specs.Judgement.{HaveConflict}
use Rattle.hq_graph.specs.Order.{IsFound, Awaits}
use Rattle.hq_finding.specs.declared.found.Found.{Found}
use Rattle.hq_finding.specs.declared.found.Found.TheVariants as found
use Rattle.hq_graph.specs.declared.wait.Wait.{Wait}
use Rattle.hq_explain.specs.Explain.{PairText}
use Rattle.hq_explain.specs.Told.{AllText}
use Rattle.hq_explain.specs.Texts.{apart_line, beyond_line, waits_line}
use Rattle.hq_explain.specs.declared.which.Which.{Which}
use Rattle.hq_explain.specs.declared.which.Which.TheVariants as which

-- ---- packets that can never complete

-- packet r waits for p in this way, and for none below that
pub record IsFirstWait (order : Job) (r p : ℕ) (by : Wait) : Type 0 where
  pub awaits : Awaits order p r by
  pub none_below : (q : ℕ) (way : Wait) → q < p → ¬ Awaits order q r way

-- the first such packet that r waits for, and how
abbrev pub StuckLine : JobValue → Job → ℕ → List ℕ → Type 0
StuckLine job order r text = (p : ℕ) × (by : Wait) × IsFirstWait order r p by × Is (waits_line job p r by) text

-- a line for r, if it can never complete
abbrev pub StuckPart : JobValue → Job → ℕ → List ℕ → Type 0
StuckPart job order r text = Where (Stuck order r) (StuckLine job order r) text

-- a line for each packet that can never complete, in number order
abbrev pub StuckText : JobValue → Job → List ℕ → Type 0
StuckText job order text = Each (StuckPart job order) (length job.packets) text

-- ---- two packets that are asked for

-- p and r are two packets, not one and the same, that conflict.
pub record AreTwo (order : Job) (p r : ℕ) : Type 0 where
  pub apart : p ≢ r
  pub conflict : HaveConflict order p r

-- what an audit of two packets alone would find
abbrev pub found_if : Bool → Found
found_if ordered = if ordered then found.Ordered else found.Conflict

-- They are no packets of the job, or they don't conflict, which is no fault; or it is said how they conflict.
pub data PairSaid (job : JobValue) (order : Job) (p r : ℕ) : Found → List ℕ → Type 0 where
  beyond : ¬ (IsPacket order p × IsPacket order r)
      → PairSaid job order p r found.Ordered (beyond_line p r (length order.packets))
  apart : IsPacket order p → IsPacket order r → ¬ AreTwo order p r
      → PairSaid job order p r found.Ordered (apart_line p r)
  said : {text : List ℕ} (ordered : Bool) → AreTwo order p r → PairText job order p r ordered text
      → PairSaid job order p r (found_if ordered) text

-- ---- the whole

-- The job has an order list: all its packets one by one, each behind what it waits for.
abbrev pub HasOrder : Job → Type 0
HasOrder order = (list : List ℕ) × OrderList order list

-- Of a job with packets that can never complete it tells of these alone; of any other, of the pairs that are asked for.
pub data Explained (job : JobValue) (order : Job) : Which → Found → List ℕ → Type 0 where
  stuck : {which : Which} {text : List ℕ} → IsFound order found.Stuck → StuckText job order text
      → Explained job order which found.Stuck text
  first : {found : Found} {text : List ℕ} → IsFound order found → HasOrder order → AllText job order false text
      → Explained job order which.First found text
  all : {found : Found} {text : List ℕ} → IsFound order found → HasOrder order → AllText job order true text
      → Explained job order which.All found text
  pair : {p r : ℕ} {found : Found} {text : List ℕ} → HasOrder order → PairSaid job order p r found text
      → Explained job order (which.Pair p r) found text

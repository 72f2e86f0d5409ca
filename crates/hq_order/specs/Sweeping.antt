-- The order from row to row: what is before a packet by what is before those that it waits for.
use Rattle.std.specs.Prelude.{◌≡◌, ℕ, suc, ◌<◌, ◌⊎◌, List, length}
use Rattle.std.specs.Global.{Vec}
use Rattle.hq_model.specs.Job.{Job, IsPacket, Earlier}
use Rattle.hq_model.specs.Order.{ByBit, ByQueue, ByAnd, Before}
use Rattle.hq_rows.specs.Matrix.{Marks, IsSquare}
use Rattle.hq_order.specs.Rounds.{ByOr}

-- By what is known, p is before r: it is before the packet right ahead of r in its queue, or is that packet, and a
-- barrier packet; it stands ahead of r, which has the barrier bit; it is complete once a dependency of the
-- barrier-AND r is over, or whichever dependency of the barrier-OR r is over.
pub data Asked (job : Job) (known : ℕ → ℕ → Type 0) (p r : ℕ) : Type 0 where
  by_ahead : {e : ℕ} → suc e ≡ r → Earlier job e r → known p e → Asked job known p r
  by_queue : suc p ≡ r → ByQueue job p r → Asked job known p r
  by_bit : ByBit job p r r → Asked job known p r
  by_and : {d slot s : ℕ} → ByAnd job d r slot s → (p ≡ d) ⊎ known p d → Asked job known p r
  by_or : ByOr job known p r → Asked job known p r

-- Behind a packet that stands ahead of r in its queue comes r, or another one of that queue.
abbrev pub StandsTogether : Job → ℕ → Type 0
StandsTogether job r = (e : ℕ) → Earlier job e r → suc e < r → Earlier job (suc e) r

-- The row of r has what it is asked for by the others.
pub record HasAsked (job : Job) (rows : List (Vec ℕ)) (r : ℕ) : Type 0 where
  pub together : StandsTogether job r
  pub asked : (p : ℕ) → Asked job (Marks rows) p r → Marks rows p r

-- So it is for each packet.
abbrev pub HaveAsked : Job → List (Vec ℕ) → Type 0
HaveAsked job rows = (r : ℕ) → IsPacket job r → HasAsked job rows r

-- The rows have at least the order: each has all that is before its packet.
pub record HaveOrder (job : Job) (rows : List (Vec ℕ)) : Type 0 where
  pub square : IsSquare (length job.packets) rows
  pub all : (p r : ℕ) → Before job p r → Marks rows p r

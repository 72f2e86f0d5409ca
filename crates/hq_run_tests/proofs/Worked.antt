-- Pieces that went through a body.
use Rattle.std.specs.Prelude.{◌≡◌, List}
use Rattle.hq_footprint.specs.declared.footprint.Work.{Work}
use Rattle.hq_footprint.specs.declared.task.Task.{Task}
use Rattle.hq_ledger.specs.Pieces.{Part}
use Rattle.hq_kernels.specs.Bodies.{Performs}
use Rattle.hq_runner.specs.Pieces.{AreFor, IsWorked}
use Rattle.hq_runner.proofs.Working as runner

-- The pieces that come back from a body of the work's task hold what it makes of those that it was handed.
pub worked : (work : Work) (own : Task) (old new : List Part) → AreFor work old → own ≡ work.task → Performs own old new → IsWorked work new
worked work own old new for same p = runner.worked work own old new for same p

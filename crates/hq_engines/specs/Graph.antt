-- What `graph` writes.
use Rattle.std.specs.Prelude.{ℕ, List, codes}
use Rattle.hq_job.specs.Plan.{plan}
use Rattle.hq_job.specs.Value.{JobValue}
use Rattle.hq_graph.specs.Graph.{GraphText}
use Rattle.hq_graph.specs.Order.{IsFound}
use Rattle.hq_finding.specs.declared.found.Found.{Found}
use Rattle.hq_status.specs.Reports.{with_feed}
use Rattle.hq_status.specs.declared.status.Status.{Status}
use Rattle.hq_status.specs.declared.status.Status.TheVariants.{Drawn, Memory}

-- What is written of a job: the picture of its order, whose status says what an audit finds; or that memory ran out.
pub data GraphReport (job : JobValue) : List ℕ → Status → Type 0 where
  drawn : {text : List ℕ} (found : Found) → GraphText job text → IsFound (plan job) found
      → GraphReport job text (Drawn found)
  no_memory : GraphReport job (with_feed (codes "out of memory")) Memory

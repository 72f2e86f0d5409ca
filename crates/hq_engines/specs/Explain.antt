-- What `explain` writes.
use Rattle.std.specs.Prelude.{ℕ, List, ◌++◌, codes}
use Rattle.hq_job.specs.Plan.{plan}
use Rattle.hq_job.specs.Value.{JobValue}
use Rattle.hq_explain.specs.Explained.{Explained}
use Rattle.hq_explain.specs.Told.{Broken}
use Rattle.hq_explain.specs.declared.which.Which.{Which}
use Rattle.hq_finding.specs.declared.found.Found.{Found}
use Rattle.hq_status.specs.Reports.{with_feed}
use Rattle.hq_status.specs.declared.status.Status.{Status}
use Rattle.hq_status.specs.declared.status.Status.TheVariants as status

-- What is written of a job: the explanation of the pairs that are asked for, whose status says what an audit finds,
-- of one pair what it finds of that; or some of the pairs, and that memory ran out.
pub data ExplainReport (which : Which) (job : JobValue) : List ℕ → Status → Type 0 where
  explained : {text : List ℕ} (found : Found) → Explained job (plan job) which found text
      → ExplainReport which job text (status.Explained found)
  no_memory : {text : List ℕ} → Broken job (plan job) text
      → ExplainReport which job (text ++ with_feed (codes "out of memory")) status.Memory

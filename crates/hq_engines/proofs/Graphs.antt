-- What `graph` writes.
use Rattle.std.proofs.Common.{◌≡◌, ℕ, inl, inr, List, Option, codes}
use Rattle.hq_job.specs.Plan.{plan}
use Rattle.hq_job.specs.Value.{JobValue}
use Rattle.std.specs.Io.KnownBytes.{Appends}
use Rattle.hq_graph.specs.Graph.{GraphText}
use Rattle.hq_graph.specs.Order.{IsFound}
use Rattle.hq_finding.specs.declared.found.Found.{Found}
use Rattle.hq_engines.specs.Graph.{GraphReport}
use Rattle.hq_engines.specs.Graph.GraphReport.{drawn, no_memory}
use Rattle.hq_status.specs.Reports.{Reported, with_feed}
use Rattle.hq_status.specs.declared.status.Status.{Status}
use Rattle.hq_status.specs.declared.status.Status.TheVariants.{Drawn, Memory, File}

pub graph_reported : (job : JobValue) (old new : Option (List ℕ)) (found : Found) (answered : Status) → (text : List ℕ) × GraphText job text × Appends old new text → IsFound (plan job) found → answered ≡ Drawn found → Reported (GraphReport job) old new answered
graph_reported job old new found answered wrote is same = (wrote.0, Drawn found, drawn found wrote.1 is, inl (same, wrote.2))

pub graph_unwritten : (job : JobValue) (old new : Option (List ℕ)) (answered : Status) → answered ≡ File → Reported (GraphReport job) old new answered
graph_unwritten job old new answered same = (with_feed (codes "out of memory"), Memory, no_memory, inr same)

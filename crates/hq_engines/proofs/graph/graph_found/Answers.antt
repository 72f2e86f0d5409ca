use Rattle.std.proofs.Common.{ap, refl, subst, codes}
use Rattle.hq_engines.specs.Graph.GraphReport.{no_memory}
use Rattle.hq_status.specs.Reports.{Said, with_feed}
use Rattle.hq_status.specs.declared.status.Status.TheVariants.{Memory, File}
use Rattle.hq_engines.proofs.Graphs.{graph_reported, graph_unwritten}
use Rattle.hq_engines.proofs.graph.graph_found.Goals as goal

pub returns-in-Ok : goal.returns-in-Ok
returns-in-Ok g c = graph_reported c.args.job.now _ _ c.in-Ok.found _ c.in-Ok.ensures.drawn c.in-Ok.ensures.found refl

pub returns-in-Err-Memory : goal.returns-in-Err-Memory
returns-in-Err-Memory g c = (
  with_feed (codes "out of memory"),
  Memory,
  no_memory,
  subst (λ held. Said held (g.W.Write.contents c.say_memory.new.writer) (with_feed (codes "out of memory")) Memory c.say_memory.result) (ap g.W.Write.contents (c.in-Err-Memory.ensures.unwritten c.in-Err-Memory.field-0-is)) c.say_memory.ensures,
)

pub returns-in-Err-Writer : goal.returns-in-Err-Writer
returns-in-Err-Writer g c = graph_unwritten c.args.job.now _ _ File refl

use Rattle.hq_graph.specs.Graph.{ClusterText, Each, Wrote}
use Rattle.hq_graph.proofs.nodes.write_clusters.Given as goal

abbrev pub invariant-loop-queue : goal.invariant-loop-queue
invariant-loop-queue g l = Wrote (g.W.Write.contents l.initial.writer) (g.W.Write.contents l.writer) (Each (ClusterText l.job l.sight.before.now) l.queue)

use Rattle.hq_graph.specs.Graph.{ClusterText}
use Rattle.hq_graph.proofs.Joining.{each_more}
use Rattle.hq_graph.proofs.nodes.write_clusters.Goals as goal

pub loop-queue-preserved : goal.loop-queue-preserved
loop-queue-preserved g c =
    each_more (g.W.Write.contents c.args.writer.now) (g.W.Write.contents c.loop-queue.writer) (g.W.Write.contents c.write_cluster.new.writer) (ClusterText c.args.job.now c.args.sight.now.before.now) c.loop-queue.queue c.loop-queue.invariant c.in_ok-write_cluster.ensures

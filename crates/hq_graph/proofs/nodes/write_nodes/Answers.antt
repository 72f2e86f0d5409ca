use Rattle.hq_graph.specs.Graph.{NodeText}
use Rattle.hq_graph.proofs.Joining.{each_more}
use Rattle.hq_graph.proofs.nodes.write_nodes.Goals as goal

pub loop-p-preserved : goal.loop-p-preserved
loop-p-preserved g c =
    each_more (g.W.Write.contents c.args.writer.now) (g.W.Write.contents c.loop-p.writer) (g.W.Write.contents c.write_node.new.writer) (NodeText c.args.job.now c.args.sight.now.before.now c.args.queue) c.loop-p.p c.loop-p.invariant c.in_ok-write_node.ensures

use Rattle.hq_graph.proofs.Texts.{node_on}
use Rattle.hq_graph.proofs.nodes.write_node.Goals as goal

pub returns : goal.returns
returns g c =
    node_on c.write_there.result (g.W.Write.contents c.args.writer.now) (g.W.Write.contents c.write_there.new.writer) c.args.job.now c.args.sight.now.before.now c.args.queue c.args.p c.node_of-node.result c.is_stuck-stuck.result c.is_stuck-stuck.ensures
    c.node_of-node.ensures c.write_there.ensures

use Rattle.std.proofs.Common.{codes, length, refl}
use Rattle.hq_graph.specs.Graph.{Each, Is, NodeText, Then, queue_line}
use Rattle.hq_graph.proofs.Joining.{both, both_on, so, so_on}
use Rattle.hq_graph.proofs.nodes.write_cluster.Goals as goal

pub returns : goal.returns
returns g c =
    let job = c.args.job.now in
    let start = g.W.Write.contents c.args.writer.now in
    let one = g.W.Write.contents c.write_queue_line.new.writer in
    let two = g.W.Write.contents c.write_nodes.new.writer in
    let three = g.W.Write.contents c.write_close.new.writer in
    let line = queue_line job c.args.queue in
    let nodes = Each (NodeText job c.args.sight.now.before.now c.args.queue) (length job.packets) in
    both_on c.write_close.result start two three (Then (Is line) nodes) (Is (codes "}\n"))
    (both start one two (Is line) nodes (so start one (Is line) line refl c.in_ok-write_queue_line.ensures) c.in_ok-write_nodes.ensures)
    (so_on c.write_close.result two three (Is (codes "}\n")) (codes "}\n") refl c.write_close.ensures)

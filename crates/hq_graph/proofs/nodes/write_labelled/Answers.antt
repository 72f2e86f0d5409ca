use Rattle.std.proofs.Common.{OnOk, codes, subst}
use Rattle.std.specs.Fmt.{decimal}
use Rattle.std.specs.Io.KnownBytes.{Appends}
use Rattle.hq_graph.specs.Graph.{queue_label}
use Rattle.hq_graph.proofs.Joining.{five_parts}
use Rattle.hq_graph.proofs.nodes.write_labelled.Goals as goal

pub returns : goal.returns
returns g c =
    let label = c.args.label.now in
    subst (λ t. OnOk c.write.result (Appends (g.W.Write.contents c.args.writer.now) (g.W.Write.contents c.write.new.self) t))
    (five_parts (codes "subgraph cluster_") (decimal c.args.number) (codes " {\nlabel=\"") (queue_label label.queue label.agent) (codes "\";\n")) c.write.ensures.bytes

use Rattle.std.proofs.Common.{OnOk, codes, subst}
use Rattle.std.specs.Io.KnownBytes.{Appends}
use Rattle.hq_graph.specs.Graph.{arrow_text, awaited_text}
use Rattle.hq_graph.proofs.Joining.{four_parts}
use Rattle.hq_graph.proofs.edges.write_awaited.Goals as goal

pub returns : goal.returns
returns g c =
    let a = c.args.awaited in
    subst (λ t. OnOk c.write.result (Appends (g.W.Write.contents c.args.writer.now) (g.W.Write.contents c.write.new.self) t))
    (four_parts (arrow_text c.args.r a.p) (codes "color=red style=dotted fontcolor=red label=\"waits for ") (awaited_text a.p a.wait a.name) (codes "\"];\n")) c.write.ensures.bytes

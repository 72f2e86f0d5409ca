use Rattle.std.proofs.Common.{OnOk, codes, subst}
use Rattle.std.specs.Io.KnownBytes.{Appends}
use Rattle.hq_graph.specs.Graph.{arrow_text, fault_text}
use Rattle.hq_graph.proofs.Joining.{four_parts}
use Rattle.hq_graph.proofs.edges.write_open.Goals as goal

pub returns : goal.returns
returns g c =
    let u = c.args.unshown in
    subst (λ t. OnOk c.write.result (Appends (g.W.Write.contents c.args.writer.now) (g.W.Write.contents c.write.new.self) t))
    (four_parts (arrow_text u.p u.r) (codes "color=red fontcolor=red label=\"") (fault_text u.fault) (codes "\"];\n")) c.write.ensures.bytes

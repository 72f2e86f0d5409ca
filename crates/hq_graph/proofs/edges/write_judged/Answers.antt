use Rattle.hq_graph.proofs.Texts.{ordered_on, open_on}
use Rattle.hq_graph.proofs.edges.write_judged.Goals as goal

pub returns-in-Ok : goal.returns-in-Ok
returns-in-Ok g c =
    ordered_on c.write_ordered.result (g.W.Write.contents c.args.writer.now) (g.W.Write.contents c.write_ordered.new.writer) c.args.before.now c.args.a c.args.b c.in-Ok.directed c.in-Ok.ensures c.write_ordered.ensures

pub returns-in-Err : goal.returns-in-Err
returns-in-Err g c =
    open_on c.write_open.result (g.W.Write.contents c.args.writer.now) (g.W.Write.contents c.write_open.new.writer) c.args.before.now c.args.a c.args.b c.in-Err.unshown c.in-Err.ensures c.write_open.ensures

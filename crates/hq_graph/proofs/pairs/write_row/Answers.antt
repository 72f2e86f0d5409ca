use Rattle.std.proofs.Common.{OnOk, sym, subst}
use Rattle.hq_graph.specs.Graph.{RowText, Wrote}
use Rattle.hq_graph.proofs.pairs.write_row.Goals as goal

pub returns-in-Waits : goal.returns-in-Waits
returns-in-Waits g c =
    subst (λ which. OnOk c.write_waits_of.result (Wrote (g.W.Write.contents c.args.writer.now) (g.W.Write.contents c.write_waits_of.new.writer) (RowText c.args.job.now c.args.sight.now.before.now which c.args.first))) (sym c.in-Waits.is) c.write_waits_of.ensures

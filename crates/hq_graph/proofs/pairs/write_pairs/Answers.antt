use Rattle.hq_graph.specs.Graph.{RowText}
use Rattle.hq_graph.proofs.Joining.{each_more}
use Rattle.hq_graph.proofs.pairs.write_pairs.Goals as goal

pub loop-first-preserved : goal.loop-first-preserved
loop-first-preserved g c =
    each_more (g.W.Write.contents c.args.writer.now) (g.W.Write.contents c.loop-first.writer) (g.W.Write.contents c.write_row.new.writer) (RowText c.args.job.now c.args.sight.now.before.now c.args.part) c.loop-first.first c.loop-first.invariant c.in_ok-write_row.ensures

use Rattle.hq_graph.specs.Graph.{PairText}
use Rattle.hq_graph.specs.declared.part.Part.TheVariants as part
use Rattle.hq_graph.proofs.Joining.{each_more}
use Rattle.hq_graph.proofs.pairs.write_all_waits.Goals as goal

pub loop-p-preserved : goal.loop-p-preserved
loop-p-preserved g c =
    each_more (g.W.Write.contents c.args.writer.now) (g.W.Write.contents c.loop-p.writer) (g.W.Write.contents c.write_wait.new.writer) (PairText c.args.job.now c.args.sight.now.before.now part.Waits c.args.r) c.loop-p.p c.loop-p.invariant c.in_ok-write_wait.ensures

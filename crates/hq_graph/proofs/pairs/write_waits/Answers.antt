use Rattle.hq_graph.proofs.Texts.{no_waits}
use Rattle.hq_graph.proofs.pairs.write_waits.Goals as goal

pub returns-else-sight : goal.returns-else-sight
returns-else-sight g c = no_waits (g.W.Write.contents c.args.writer.now) c.args.job.now c.args.sight.now.before.now (c.requires.stuck.free c.if-sight.false)

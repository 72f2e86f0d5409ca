use Rattle.hq_graph.specs.Order.{Awaits}
use Rattle.hq_graph.specs.Graph.{WaitText}
use Rattle.hq_graph.specs.declared.wait.Wait.{Wait}
use Rattle.hq_graph.proofs.Texts.{none_there}
use Rattle.hq_graph.proofs.edges.write_wait.Goals as goal

pub returns-in-None : goal.returns-in-None
returns-in-None g c =
    let order = c.args.sight.now.before.now in
    none_there (g.W.Write.contents c.args.writer.now) ((by : Wait) × Awaits order c.args.p c.args.r by) (WaitText c.args.job.now order c.args.p c.args.r) (λ w. c.in-None.ensures w.0 w.1)

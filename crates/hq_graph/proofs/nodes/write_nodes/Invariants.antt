use Rattle.hq_graph.specs.Graph.{Each, NodeText, Wrote}
use Rattle.hq_graph.proofs.nodes.write_nodes.Given as goal

abbrev pub invariant-loop-p : goal.invariant-loop-p
invariant-loop-p g l = Wrote (g.W.Write.contents l.initial.writer) (g.W.Write.contents l.writer) (Each (NodeText l.job l.sight.before.now l.queue) l.p)

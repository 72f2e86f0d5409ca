use Rattle.hq_graph.specs.Graph.{Each, PairText, Wrote}
use Rattle.hq_graph.specs.declared.part.Part.TheVariants as part
use Rattle.hq_graph.proofs.pairs.write_all_waits.Given as goal

abbrev pub invariant-loop-p : goal.invariant-loop-p
invariant-loop-p g l = Wrote (g.W.Write.contents l.initial.writer) (g.W.Write.contents l.writer) (Each (PairText l.job l.sight.before.now part.Waits l.r) l.p)

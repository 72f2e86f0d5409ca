use Rattle.hq_graph.specs.Graph.{Each, RowText, Wrote}
use Rattle.hq_graph.proofs.pairs.write_pairs.Given as goal

abbrev pub invariant-loop-first : goal.invariant-loop-first
invariant-loop-first g l = Wrote (g.W.Write.contents l.initial.writer) (g.W.Write.contents l.writer) (Each (RowText l.job l.sight.before.now l.part) l.first)

use Rattle.std.proofs.Common.{slice_get}
use Rattle.hq_graph.specs.Graph.{Each, Is, Wrote}
use Rattle.hq_explain.specs.Texts.{advice_there}
use Rattle.hq_explain.proofs.changes.write_each.Given as goal

abbrev pub invariant-loop-p : goal.invariant-loop-p
invariant-loop-p g l = Wrote (g.W.Write.contents l.initial.writer) (g.W.Write.contents l.writer) (Each (λ p. Is (advice_there p (slice_get l.list p))) l.p)

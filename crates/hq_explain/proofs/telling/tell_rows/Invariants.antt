use Rattle.std.proofs.Common.{◌*◌, ◌≤◌}
use Rattle.hq_graph.specs.Graph.{Wrote}
use Rattle.hq_explain.specs.Told.{Told}
use Rattle.hq_explain.proofs.telling.tell_rows.Given as goal

abbrev pub invariant-loop-a : goal.invariant-loop-a
invariant-loop-a g l = (l.count ≤ l.a * 1024) × Wrote (g.W.Write.contents l.initial.writer) (g.W.Write.contents l.writer) (Told l.job l.before l.all l.a 0 l.count)

use Rattle.std.proofs.Common.{◌+◌, ◌≤◌}
use Rattle.hq_graph.specs.Graph.{Wrote}
use Rattle.hq_explain.specs.Told.{RowTold}
use Rattle.hq_explain.proofs.telling.tell_row.Given as goal

abbrev pub invariant-loop-b : goal.invariant-loop-b
invariant-loop-b g l = (l.now ≤ l.count + l.b) × Wrote (g.W.Write.contents l.initial.writer) (g.W.Write.contents l.writer) (RowTold l.job l.before l.all l.a l.count l.b l.now)

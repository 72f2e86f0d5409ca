use Rattle.std.proofs.Common.{◌-◌, ◌≤◌, length}
use Rattle.hq_graph.specs.Graph.{Each, PairText, Wrote}
use Rattle.hq_graph.specs.declared.part.Part.TheVariants as part
use Rattle.hq_graph.proofs.pairs.write_conflicts.Given as goal

abbrev pub invariant-others : goal.invariant-others
invariant-others g l = record {
  upto : l.b ≤ length l.sight.before.now.packets;
  wrote : Wrote (g.W.Write.contents l.initial.writer) (g.W.Write.contents l.writer) (Each (PairText l.job l.sight.before.now part.Conflicts l.a) l.b);
}

abbrev pub decreases-others : goal.decreases-others
decreases-others g l = length l.sight.before.now.packets - l.b

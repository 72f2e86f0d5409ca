use Rattle.std.proofs.Common.{◌-◌, ◌<◌, ◌≤◌, length}
use Rattle.hq_graph.specs.Order.{IsStep}
use Rattle.hq_graph.specs.Graph.{Each, PairText, Wrote}
use Rattle.hq_graph.specs.declared.part.Part.TheVariants as part
use Rattle.hq_graph.proofs.pairs.write_steps.Given as goal

abbrev pub invariant-steps : goal.invariant-steps
invariant-steps g l = record {
  upto : l.p ≤ length l.sight.before.now.packets;
  there : l.p < length l.sight.before.now.packets → IsStep l.sight.before.now l.p l.r;
  wrote : Wrote (g.W.Write.contents l.initial.writer) (g.W.Write.contents l.writer) (Each (PairText l.job l.sight.before.now part.Steps l.r) l.p);
}

abbrev pub decreases-steps : goal.decreases-steps
decreases-steps g l = length l.sight.before.now.packets - l.p

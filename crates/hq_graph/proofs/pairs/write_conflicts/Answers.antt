use Rattle.std.proofs.Common.{◌+◌, ◌≤◌, inl, inr, length, subst}
use Rattle.std.proofs.lemmas.Bool.{cases_lt}
use Rattle.hq_parts.specs.Parts.{NeverConflict}
use Rattle.hq_graph.specs.Graph.{PairText}
use Rattle.hq_graph.specs.declared.part.Part.TheVariants as part
use Rattle.hq_graph.proofs.Joining.{each_first, each_next}
use Rattle.hq_graph.proofs.Texts.{no_conflict, no_conflict_below}
use Rattle.hq_graph.proofs.pairs.write_conflicts.Goals as goal

pub others-init : goal.others-init
others-init g c =
    let job = c.args.job.now in
    let order = c.args.sight.now.before.now in
    let next = c.next-b.ensures in
    record {
      upto = subst (λ k. c.next-b.result ≤ length k.packets) c.job-planned.ensures next.below;
      wrote = each_first (g.W.Write.contents c.args.writer.now) (PairText job order part.Conflicts c.args.a) c.next-b.result
          (λ s low. elim (cases_lt s (c.args.a + 1)) [
            | inl below ↦ no_conflict_below job order c.args.a s below
            | inr from ↦ no_conflict job order c.args.a s (subst (λ k. NeverConflict k c.args.a s) c.job-planned.ensures (next.apart c.args.a s c.others-others.ensures from low))
          ]);
    }

pub others-preserved : goal.others-preserved
others-preserved g c =
    let job = c.args.job.now in
    let order = c.args.sight.now.before.now in
    let next = c.next-b-in-others.ensures in
    record {
      upto = subst (λ k. c.next-b-in-others.result ≤ length k.packets) c.job-planned.ensures next.below;
      wrote = each_next (g.W.Write.contents c.args.writer.now) (g.W.Write.contents c.others.writer) (g.W.Write.contents c.write_conflict.new.writer) (PairText job order part.Conflicts c.args.a) c.others.b c.next-b-in-others.result
          c.others.invariant.wrote c.in_ok-write_conflict.ensures next.above (λ s from low. no_conflict job order c.args.a s (subst (λ k. NeverConflict k c.args.a s) c.job-planned.ensures (next.apart c.args.a s c.others-others.ensures from low)));
    }

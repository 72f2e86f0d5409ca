use Rattle.std.proofs.Common.{arith}
use Rattle.hq_graph.specs.Graph.{PairText}
use Rattle.hq_graph.specs.declared.part.Part.TheVariants as part
use Rattle.hq_graph.proofs.Joining.{each_first, each_next}
use Rattle.hq_graph.proofs.Texts.{no_step}
use Rattle.hq_graph.proofs.pairs.write_steps.Goals as goal

pub steps-init : goal.steps-init
steps-init g c =
    let job = c.args.job.now in
    let order = c.args.sight.now.before.now in
    let next = c.next_step-p.ensures in
    record {
      upto = next.below;
      there = next.there;
      wrote = each_first (g.W.Write.contents c.args.writer.now) (PairText job order part.Steps c.args.r) c.next_step-p.result (λ p low. no_step job order c.args.r p (next.none p (omega arith) low));
    }

pub steps-preserved : goal.steps-preserved
steps-preserved g c =
    let job = c.args.job.now in
    let order = c.args.sight.now.before.now in
    let next = c.next_step-p-in-steps.ensures in
    record {
      upto = next.below;
      there = next.there;
      wrote = each_next (g.W.Write.contents c.args.writer.now) (g.W.Write.contents c.steps.writer) (g.W.Write.contents c.write_step.new.writer) (PairText job order part.Steps c.args.r) c.steps.p c.next_step-p-in-steps.result
          c.steps.invariant.wrote c.in_ok-write_step.ensures next.above (λ p from low. no_step job order c.args.r p (next.none p from low));
    }

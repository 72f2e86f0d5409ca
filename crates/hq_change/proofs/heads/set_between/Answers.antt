use Rattle.std.proofs.Common.{◌+◌, sym, ◌∙◌, subst, arith}
use Rattle.std.proofs.lemmas.Option.{slice_get-get_or}
use Rattle.hq_job.specs.Plan.{plan}
use Rattle.hq_model.specs.Job.{IsPacket}
use Rattle.hq_change.specs.Between.{SetBetween}
use Rattle.hq_change.proofs.Between.{one_set}
use Rattle.hq_change.proofs.Whole.{is_planned, packet_kept}
use Rattle.hq_change.proofs.heads.set_between.Goals as goal

pub loop-p-preserved : goal.loop-p-preserved
loop-p-preserved c =
    let i = c.loop-p.p in
    let h = c.loop-p.invariant in
    let room : IsPacket (plan c.loop-p.job) i = packet_kept (plan c.args.job.now) (plan c.loop-p.job) i h.set.same (is_planned c.args.job.now i (omega (arith, c.loop-p-test.true, c.requires.to))) in
    record {
      above = omega (arith, h.above);
      set = subst (SetBetween c.args.heads.now c.args.from (i + 1) (plan c.args.job.now)) (sym c.set_head.ensures.plan)
          (one_set c.args.heads.now c.args.from i (plan c.args.job.now) (plan c.loop-p.job) _ h.above room h.set (slice_get-get_or c.args.heads.now i _ (omega (arith, c.loop-p-test.true, c.requires.to, c.requires.heads))));
      same = h.same ∙ c.set_head.ensures.same;
    }

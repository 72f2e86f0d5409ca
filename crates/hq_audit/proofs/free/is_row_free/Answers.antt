use Rattle.std.proofs.Common.{◌+◌, arith}
use Rattle.hq_job.specs.Plan.{plan}
use Rattle.hq_audit.proofs.NoConflicts.{row_skipped, row_next, never}
use Rattle.hq_audit.proofs.free.is_row_free.Goals as goal

pub others-init : goal.others-init
others-init c =
    let next = c.next-b.ensures in
    record {
      above = omega (arith, next.above);
      free = row_skipped (plan c.args.job.now) c.args.a (c.args.a + 1) c.next-b.result (λ s above low. absurd (omega arith)) (λ s. next.apart c.args.a s c.others-row.ensures);
    }

pub others-preserved : goal.others-preserved
others-preserved c =
    let job = plan c.args.job.now in
    let next = c.next-b-in-others.ensures in
    record {
      above = omega (arith, next.above, c.others.invariant.above);
      free = row_skipped job c.args.a (c.others.b + 1) c.next-b-in-others.result
          (row_next job c.args.a c.others.b c.others.invariant.free (never job c.args.a c.others.b c.have_conflict.result c.have_conflict.ensures.1 c.if-have_conflict.false))
          (λ s. next.apart c.args.a s c.others-row.ensures);
    }

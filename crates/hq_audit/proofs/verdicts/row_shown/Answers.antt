use Rattle.std.proofs.Common.{◌+◌, arith}
use Rattle.hq_audit.specs.Refused.{IsFirstOfRow}
use Rattle.hq_job.specs.Plan.{plan}
use Rattle.hq_audit.proofs.Parting.{row_skipped}
use Rattle.hq_audit.proofs.Turning.{row_next, handed_on}
use Rattle.hq_audit.proofs.verdicts.row_shown.Goals as goal

pub others-init : goal.others-init
others-init c =
    let next = c.next-b.ensures in
    record {
      above = omega (arith, next.above);
      shown = row_skipped c.args.before.now (plan c.job-job.result.now) c.args.a (c.args.a + 1) c.next-b.result c.job-job.ensures (λ s above low is. absurd (omega arith)) (λ s. next.apart c.args.a s c.others-row.ensures);
    }

pub others-preserved : goal.others-preserved
others-preserved c =
    let job = c.args.before.now in
    let next = c.next-b-in-others.ensures in
    record {
      above = omega (arith, next.above, c.others.invariant.above);
      shown = row_skipped job (plan c.job-job.result.now) c.args.a (c.others.b + 1) c.next-b-in-others.result c.job-job.ensures (row_next job c.args.a c.others.b c.others.invariant.shown c.in_ok-pair_shown.ensures.shown) (λ s. next.apart c.args.a s c.others-row.ensures);
    }

pub returns-clause-shown : goal.returns-clause-shown
returns-clause-shown c = λ s above low is. c.others.invariant.shown s above (omega (arith, c.others-test.false, c.len.ensures, low)) is

pub returns-in_err-pair_shown-clause-unshown : goal.returns-in_err-pair_shown-clause-unshown
returns-in_err-pair_shown-clause-unshown c =
    handed_on (IsFirstOfRow c.args.before.now c.args.a) c.from_residual.result c.in_err-pair_shown.field-0.0 c.from_residual.ensures.1
    (record {
      b = c.others.b;
      above = c.others.invariant.above;
      is_packet = omega (arith, c.others-test.true, c.len.ensures);
      unshown = c.in_err-pair_shown.ensures.unshown;
      first = c.others.invariant.shown;
    })

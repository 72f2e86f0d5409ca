use Rattle.std.proofs.Common.{◌+◌, arith}
use Rattle.hq_audit.specs.Refused.{IsUnshown, IsFirstOfRow}
use Rattle.hq_audit.proofs.Pairing.{go_same, go_more, row_paired_next}
use Rattle.hq_job.specs.Plan.{plan}
use Rattle.hq_audit.proofs.Parting.{row_skipped, row_paired_skipped}
use Rattle.hq_audit.proofs.Turning.{row_next, whole_refused}
use Rattle.hq_audit.specs.Drafted.{drafts_of}
use Rattle.hq_audit.proofs.drafting.Drafts.add_others.Goals as goal

pub others-init : goal.others-init
others-init c =
    let job = c.args.before.now in
    let drafts = (drafts_of c.args.self.now) in
    let next = c.next-b.ensures in
    record {
      above = omega (arith, next.above);
      goes = go_same job c.args.self.now c.requires.are;
      paired = row_paired_skipped job (plan c.job-job.result.now) drafts c.args.a (c.args.a + 1) c.next-b.result c.job-job.ensures (λ s above low is. absurd (omega arith)) (λ s. next.apart c.args.a s c.others-row.ensures);
      shown = row_skipped job (plan c.job-job.result.now) c.args.a (c.args.a + 1) c.next-b.result c.job-job.ensures (λ s above low is. absurd (omega arith)) (λ s. next.apart c.args.a s c.others-row.ensures);
    }

pub others-preserved : goal.others-preserved
others-preserved c =
    let job = c.args.before.now in
    let old = (drafts_of c.others.self) in
    let new = (drafts_of c.add_pair.new.self) in
    let next = c.next-b-in-others.ensures in
    record {
      above = omega (arith, next.above, c.others.invariant.above);
      goes = go_more job c.args.self.now c.others.self c.add_pair.new.self c.others.invariant.goes c.in_ok-add_pair.ensures.goes;
      paired = row_paired_skipped job (plan c.job-job.result.now) new c.args.a (c.others.b + 1) c.next-b-in-others.result c.job-job.ensures
          (row_paired_next job c.args.a c.others.b old new c.others.invariant.paired c.in_ok-add_pair.ensures.goes.longer c.in_ok-add_pair.ensures.has) (λ s. next.apart c.args.a s c.others-row.ensures);
      shown = row_skipped job (plan c.job-job.result.now) c.args.a (c.others.b + 1) c.next-b-in-others.result c.job-job.ensures (row_next job c.args.a c.others.b c.others.invariant.shown c.in_ok-add_pair.ensures.shown) (λ s. next.apart c.args.a s c.others-row.ensures);
    }

pub returns-clause-paired : goal.returns-clause-paired
returns-clause-paired c = λ s above low is. c.others.invariant.paired s above (omega (arith, c.others-test.false, c.len.ensures, low)) is

pub returns-clause-shown : goal.returns-clause-shown
returns-clause-shown c = λ s above low is. c.others.invariant.shown s above (omega (arith, c.others-test.false, c.len.ensures, low)) is

pub returns-in_err-add_pair-clause-refused : goal.returns-in_err-add_pair-clause-refused
returns-in_err-add_pair-clause-refused c =
    let job = c.args.before.now in
    whole_refused (IsUnshown job c.args.a c.others.b) (IsFirstOfRow job c.args.a) c.from_residual.result c.in_err-add_pair.field-0.0 c.from_residual.ensures.1 c.in_err-add_pair.ensures.refused
    (λ u is. record {
      b = c.others.b;
      above = c.others.invariant.above;
      is_packet = omega (arith, c.others-test.true, c.len.ensures);
      unshown = is;
      first = c.others.invariant.shown;
    })

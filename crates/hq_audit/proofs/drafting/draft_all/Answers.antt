use Rattle.std.proofs.Common.{◌<◌, length, arith, subst, sym}
use Rattle.hq_audit.specs.Drafted.{drafts_of}
use Rattle.hq_audit.specs.Paired.{AllPaired}
use Rattle.hq_audit.specs.Refused.{IsFirstOfRow, IsFirstUnshown}
use Rattle.hq_audit.proofs.Pairing.{rows_paired_next}
use Rattle.hq_audit.proofs.Rowing.{upto_none}
use Rattle.hq_audit.proofs.Turning.{rows_next, whole_refused}
use Rattle.hq_audit.proofs.drafting.draft_all.Goals as goal

pub loop-a-init : goal.loop-a-init
loop-a-init c = upto_none c.args.before.now c.in_ok-drafts.drafts c.in_ok-drafts.ensures.are

pub loop-a-preserved : goal.loop-a-preserved
loop-a-preserved c =
    let job = c.args.before.now in
    let row = c.in_ok-add_row.ensures in
    record {
      are = row.goes.are;
      paired = rows_paired_next job c.loop-a.a (drafts_of c.loop-a.drafts) (drafts_of c.add_row.new.self) c.loop-a.invariant.paired row.goes.longer row.paired;
      shown = rows_next job c.loop-a.a c.loop-a.invariant.shown row.shown;
    }

pub returns-clause-all : goal.returns-clause-all
returns-clause-all c =
    let over = c.loop-a-test.false in
    let count = c.len-a-end.ensures in
    let job = c.args.before.now in
    record {
      are = c.close_keeping.ensures.are;
      paired = subst (AllPaired job) (sym c.close_keeping.ensures.same)
          (λ q s above is. let low : s < length job.packets = is in c.loop-a.invariant.paired q s (omega arith) above is);
      shown = λ q s above is. let low : s < length c.args.before.now.packets = is in c.loop-a.invariant.shown q s (omega arith) above is;
    }

pub returns-in_err-add_row-clause-refused : goal.returns-in_err-add_row-clause-refused
returns-in_err-add_row-clause-refused c =
    let job = c.args.before.now in
    whole_refused (IsFirstOfRow job c.loop-a.a) (IsFirstUnshown job) c.from_residual-in_err-add_row.result c.in_err-add_row.field-0.0 c.from_residual-in_err-add_row.ensures.1 c.in_err-add_row.ensures.refused
    (λ u is. record { a = c.loop-a.a; row = is; rows = c.loop-a.invariant.shown })

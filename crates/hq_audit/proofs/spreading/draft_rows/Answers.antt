use Rattle.std.proofs.Common.{◌≡◌, ◌<◌, min, length, arith, rules, subst, sym}
use Rattle.hq_audit.specs.Drafted.{drafts_of}
use Rattle.hq_audit.specs.Rowed.{RowsBetween}
use Rattle.hq_audit.proofs.Rowing.{rows_next, shown_next}
use Rattle.hq_audit.proofs.spreading.draft_rows.Goals as goal

pub loop-a-init : goal.loop-a-init
loop-a-init c = record {
  are = c.requires.are;
  paired = λ q s low upto above is. absurd (omega (arith, low, upto));
  shown = λ q s low upto above is. absurd (omega (arith, low, upto));
}

pub loop-a-preserved : goal.loop-a-preserved
loop-a-preserved c =
    let job = c.args.before.now in
    let row = c.in_ok-add_row.ensures in
    record {
      are = row.goes.are;
      paired = rows_next job c.args.from c.loop-a.a (drafts_of c.loop-a.drafts) (drafts_of c.add_row.new.self) c.loop-a.invariant.paired row.goes.longer row.paired;
      shown = shown_next job c.args.from c.loop-a.a c.loop-a.invariant.shown row.shown;
    }

pub returns : goal.returns
returns c =
    let over = c.loop-a-test.false in
    let end : c.min-a-end.result ≡ min c.args.to c.len.result = search rules in
    let count = c.len.ensures in
    let job = c.args.before.now in
    record {
      are = c.close.ensures.are;
      paired = subst (λ drafts. RowsBetween job drafts c.args.from c.args.to) (sym c.close.ensures.same)
          (λ q s low upto above is. let within : s < length job.packets = is in c.loop-a.invariant.paired q s low (omega arith) above is);
      shown = λ q s low upto above is. let within : s < length c.args.before.now.packets = is in c.loop-a.invariant.shown q s low (omega arith) above is;
    }

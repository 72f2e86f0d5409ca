use Rattle.std.proofs.Common.{◌≡◌, ◌+◌, ◌*◌, IsTrue}
use Rattle.hq_bits.specs.Bits.{has}
use Rattle.hq_bits.proofs.Walked.{mark_bit, gone_none, gone_more, gone_all, under_less}
use Rattle.hq_bits.proofs.turn_word.Goals as goal

pub each-init : goal.each-init
each-init c = record {
  under = λ i l h. h;
  exact = λ x. gone_none (IsTrue (has c.args.table.now x)) c.args.word (λ bit. x ≡ (c.args.first + bit) * 1024 + c.args.r);
}

pub each-preserved : goal.each-preserved
each-preserved c = record {
  under = under_less c.args.word c.each.rest c.without-rest.result c.lowest-bit.result c.without-rest.ensures.clear c.without-rest.ensures.same c.each.invariant.under;
  exact = λ x. gone_more (IsTrue (has c.args.table.now x)) (IsTrue (has c.each.table x)) (IsTrue (has c.insert.new.row x)) c.args.word c.each.rest c.without-rest.result c.lowest-bit.result (λ bit. x ≡ (c.args.first + bit) * 1024 + c.args.r)
      c.lowest-bit.ensures.low (c.each.invariant.under c.lowest-bit.result c.lowest-bit.ensures.low c.lowest-bit.ensures.has) c.without-rest.ensures.clear c.without-rest.ensures.same (c.each.invariant.exact x)
      (mark_bit (has c.each.table x) (has c.insert.new.row x) x ((c.args.first + c.lowest-bit.result) * 1024 + c.args.r) (c.insert.ensures x));
}

pub returns : goal.returns
returns c = λ x. gone_all (IsTrue (has c.args.table.now x)) (IsTrue (has c.each.table x)) c.args.word c.each.rest (λ bit. x ≡ (c.args.first + bit) * 1024 + c.args.r) c.each-test.false (c.each.invariant.exact x)

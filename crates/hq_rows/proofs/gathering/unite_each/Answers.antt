use Rattle.std.proofs.Common.{◌+◌, ◌*◌, IsTrue, sym, ◌∙◌}
use Rattle.hq_bits.specs.Bits.{has}
use Rattle.hq_rows.specs.Matrix.{Marks}
use Rattle.hq_bits.proofs.Walked.{gone_none, gone_more, gone_all, under_less}
use Rattle.hq_rows.proofs.Gathered.{bits_of_all}
use Rattle.hq_bits.proofs.Words.{grown_more, grown_same}
use Rattle.hq_rows.proofs.gathering.unite_each.Goals as goal

pub each-init : goal.each-init
each-init c = record {
  under = λ i l h. h;
  grown = grown_same c.args.new.now;
  exact = λ p. gone_none (IsTrue (has c.args.new.now p)) c.args.word (λ bit. Marks c.args.rows.now p (c.args.place * 64 + bit));
}

pub unite_row-requires : goal.unite_row-requires
unite_row-requires c = record { width = λ k l. c.requires.width k l ∙ sym c.each.invariant.grown.len }

pub each-preserved : goal.each-preserved
each-preserved c = record {
  under = under_less c.args.word c.each.rest c.without-rest.result c.lowest-bit.result c.without-rest.ensures.clear c.without-rest.ensures.same c.each.invariant.under;
  grown = grown_more c.args.new.now c.each.new c.unite_row.new.union c.each.invariant.grown c.unite_row.ensures.grown;
  exact = λ p. gone_more (IsTrue (has c.args.new.now p)) (IsTrue (has c.each.new p)) (IsTrue (has c.unite_row.new.union p)) c.args.word c.each.rest c.without-rest.result c.lowest-bit.result (λ bit. Marks c.args.rows.now p (c.args.place * 64 + bit))
      c.lowest-bit.ensures.low (c.each.invariant.under c.lowest-bit.result c.lowest-bit.ensures.low c.lowest-bit.ensures.has) c.without-rest.ensures.clear c.without-rest.ensures.same (c.each.invariant.exact p)
      (c.unite_row.ensures.exact p);
}

pub returns-clause-grown : goal.returns-clause-grown
returns-clause-grown c = c.each.invariant.grown

pub returns-clause-exact : goal.returns-clause-exact
returns-clause-exact c = λ p. bits_of_all (IsTrue (has c.args.new.now p)) (IsTrue (has c.each.new p)) c.args.rows.now c.args.place c.args.word p
    (gone_all (IsTrue (has c.args.new.now p)) (IsTrue (has c.each.new p)) c.args.word c.each.rest (λ bit. Marks c.args.rows.now p (c.args.place * 64 + bit)) c.each-test.false (c.each.invariant.exact p))

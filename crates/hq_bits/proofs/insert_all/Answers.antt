use Rattle.std.proofs.Common.{◌∙◌, arith}
use Rattle.std.proofs.lemmas.List.{length-set}
use Rattle.hq_bits.proofs.Sets.{word_more}
use Rattle.hq_bits.proofs.insert_all.Goals as goal

pub loop-place-preserved : goal.loop-place-preserved
loop-place-preserved c =
    let l = c.loop-place in
    record {
      len = length-set l.row l.place _ ∙ l.invariant.len;
      has = word_more c.args.row.now l.row l.place c.bits_between.result c.args.start c.args.end _ _ (omega (arith, c.loop-place-test.true, c.min-place-end.ensures, l.auto.row)) c.requires.range (omega (arith, c.loop-place-test.true, c.min-place-end.ensures)) (omega (arith, c.min.ensures, c.saturating_sub-from.ensures)) (omega (arith, c.min-to.ensures)) c.bits_between.ensures.inside c.bits_between.ensures.outside l.invariant.has;
    }

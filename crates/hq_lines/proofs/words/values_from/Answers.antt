use Rattle.std.proofs.Common.{arith}
use Rattle.std.proofs.lemmas.List.{length-set}
use Rattle.hq_lines.proofs.Pairs.{values_more}
use Rattle.hq_lines.proofs.words.values_from.Goals as goal

pub loop-i-preserved : goal.loop-i-preserved
loop-i-preserved c = (
  values_more c.args.digits.now c.loop-i.values c.args.from c.loop-i.i c.digit_value.result c.loop-i.invariant.0 (omega (arith, c.loop-i-test.true, c.loop-i.invariant.1)) c.digit_value.ensures,
  omega (arith, c.loop-i.invariant.1, length-set c.loop-i.values c.loop-i.i c.digit_value.result),
)

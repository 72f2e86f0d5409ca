use Rattle.std.proofs.Common.{refl}
use Rattle.hq_judging.proofs.Numbers.{numbers_more}
use Rattle.hq_judging.proofs.stuck.write_numbers.Goals as goal

pub loop-number-preserved : goal.loop-number-preserved
loop-number-preserved g c =
    numbers_more _ _ _ c.args.numbers.now c.loop-number.number-index _ c.loop-number.invariant c.loop-number-test.true refl c.in_ok-write.ensures.bytes

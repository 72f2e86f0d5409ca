use Rattle.std.proofs.Common.{arith}
use Rattle.std.specs.Fmt.{decimal}
use Rattle.hq_certtext.proofs.Puts.{then_gains, roomed, as_text, put_gains, number_next}
use Rattle.hq_certtext.proofs.printing.write_numbers.Goals as goal

pub loop-number-preserved : goal.loop-number-preserved
loop-number-preserved g c =
    let made = roomed c.loop-number.invariant.written c.in_ok-at.ensures.written in
    record {
      written = as_text (then_gains made (put_gains (g.W.Write.contents c.make_room.new.writer) c.put_number-at.ensures.put)) (number_next decimal c.args.numbers.now c.loop-number.number-index 0 c.loop-number-test.true);
      within = omega (arith, c.in_ok-at.ensures.room);
    }

use Rattle.std.proofs.Common.{refl}
use Rattle.hq_certtext.proofs.Puts.{then_gains, as_text, put_gains}
use Rattle.hq_certtext.proofs.printing.write_order.Goals as goal

pub returns-clause-written : goal.returns-clause-written
returns-clause-written g c =
    let contents = g.W.Write.contents in
    let begun = contents c.make_room.new.writer in
    as_text
    (then_gains c.in_ok-at.ensures.written
    (then_gains (put_gains begun c.put_head-at.ensures.put)
    (then_gains (put_gains begun c.put-at.ensures.put)
    (then_gains c.in_ok-at-2.ensures.written
    (then_gains c.in_ok-at-3.ensures.written (put_gains (contents c.make_room-2.new.writer) c.put.ensures.put)))))) refl

use Rattle.std.proofs.Common.{refl, subst, []}
use Rattle.hq_certtext.specs.Gains.{Gains}
use Rattle.hq_certtext.proofs.Puts.{then_gains, as_text, put_gains}
use Rattle.hq_certtext.proofs.printing.write_end.Goals as goal

pub returns : goal.returns
returns g c =
    let contents = g.W.Write.contents in
    let bytes = c.put-at.new.bytes in
    let gone = subst (λ n. Gains (contents c.make_room.new.writer) bytes c.put-at.result (contents c.spill.new.writer) bytes n []) c.in_ok-spill.ensures.front c.in_ok-spill.ensures.written in
    as_text (then_gains c.in_ok-at.ensures.written (then_gains (put_gains (contents c.make_room.new.writer) c.put-at.ensures.put) gone)) refl

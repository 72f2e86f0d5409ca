use Rattle.hq_cert.specs.View.{line_of}
use Rattle.hq_certtext.proofs.Puts.{then_gains, as_text, put_gains, line_is}
use Rattle.hq_certtext.proofs.printing.write_line.Goals as goal

pub returns-clause-written : goal.returns-clause-written
returns-clause-written g c =
    let contents = g.W.Write.contents in
    let line = as_text
    (then_gains (put_gains (contents c.make_room.new.writer) c.put_line-at.ensures.put)
    (then_gains c.in_ok-at-2.ensures.written (put_gains (contents c.write_rule.new.writer) c.put.ensures.put))) (line_is c.args.k (line_of c.args.line.now)) in
    then_gains c.in_ok-at.ensures.written line

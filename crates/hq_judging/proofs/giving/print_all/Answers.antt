use Rattle.std.proofs.Common.{◌++◌, false, subst}
use Rattle.std.proofs.lemmas.Result.{on_ok_weaker}
use Rattle.hq_job.specs.Plan.{plan}
use Rattle.hq_text.specs.Printed.{line_text}
use Rattle.hq_certtext.specs.Grammar.{head_words, order_words}
use Rattle.hq_certtext.specs.Printing.{Prints}
use Rattle.hq_judging.proofs.Audited.{certificate_written}
use Rattle.hq_judging.proofs.giving.print_all.Goals as goal

pub returns : goal.returns
returns g c = on_ok_weaker c.end.result (λ ended.
    let contents = g.W.Write.contents in
    let begun = subst (λ order. Prints (contents c.args.writer.now) c.args.printer (contents c.begin.new.writer) c.begin.new.self (line_text (head_words false) ++ line_text (order_words order))) c.order.ensures c.in_ok-begin.ensures.prints in
    certificate_written (plan c.args.job.now) c.args.audited.now (contents c.args.writer.now) (contents c.begin.new.writer) (contents c.print_body.new.writer) (contents c.end.new.writer) c.args.printer c.begin.new.self c.print_body.new.printer
    c.requires.audited c.requires.empty begun c.in_ok-print_body.ensures.prints ended) c.end.ensures

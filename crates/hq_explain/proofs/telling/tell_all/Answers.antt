use Rattle.std.proofs.Common.{refl}
use Rattle.hq_graph.specs.Graph.{Is}
use Rattle.hq_graph.proofs.Joining.{so}
use Rattle.hq_explain.specs.Told.{closing_text}
use Rattle.hq_explain.proofs.Counting.{all_told}
use Rattle.hq_explain.proofs.telling.tell_all.Goals as goal

pub returns-clause-told : goal.returns-clause-told
returns-clause-told g c =
    let at = g.W.Write.contents in
    let count = c.in_ok-count.count in
    let closing = closing_text c.args.all count in
    let two = at c.tell_rows.new.writer in
    let three = at c.write_closing.new.writer in
    all_told (at c.args.writer.now) two three c.args.job.now c.args.before.now c.args.all count c.in_ok-count.ensures.told (so two three (Is closing) closing refl c.in_ok-write_closing.ensures)

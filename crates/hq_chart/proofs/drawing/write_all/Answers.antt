use Rattle.std.proofs.Common.{length, codes, subst, ◌++◌}
use Rattle.std.specs.Io.KnownBytes.{Appends}
use Rattle.hq_chart.specs.Chart.{head_text, rows_text, agents_drawn, agents_text, events_text, left_text, end_text}
use Rattle.hq_chart.specs.Rows.{rows_after}
use Rattle.hq_chart.proofs.Drawn.{appends_more, then_more}
use Rattle.hq_chart.proofs.drawing.write_all.Goals as goal

pub returns : goal.returns
returns g c =
    let job = c.args.job.now in
    let copies = c.args.copies in
    let rows = c.args.rows.now in
    let events = c.args.events.now in
    let old = g.W.Write.contents c.args.writer.now in
    let one = head_text job copies (length events) in
    let two = one ++ rows_text job (length job.packets) in
    let three = two ++ agents_text job (agents_drawn job copies) in
    let four = three ++ events_text job copies rows 0 events in
    let five = four ++ left_text job (rows_after rows 0 events) (length events) in
    then_more c.write_closing.result old _ _ (five ++ end_text job copies (length events) c.args.is_refused) (codes "</svg>\n")
    (appends_more old (g.W.Write.contents c.write_open.new.writer) (g.W.Write.contents c.write_end.new.writer) five _
    (appends_more old (g.W.Write.contents c.write_events.new.writer) (g.W.Write.contents c.write_open.new.writer) four _
    (appends_more old (g.W.Write.contents c.write_agents.new.writer) (g.W.Write.contents c.write_events.new.writer) three _
    (appends_more old (g.W.Write.contents c.write_rows.new.writer) (g.W.Write.contents c.write_agents.new.writer) two _
    (appends_more old (g.W.Write.contents c.write_head.new.writer) (g.W.Write.contents c.write_rows.new.writer) one _ c.in_ok-write_head.ensures c.in_ok-write_rows.ensures)
    c.in_ok-write_agents.ensures) c.in_ok-write_events.ensures.written)
    (subst (λ after. Appends (g.W.Write.contents c.write_events.new.writer) (g.W.Write.contents c.write_open.new.writer) (left_text job after (length events))) c.in_ok-write_events.ensures.rows c.in_ok-write_open.ensures))
    c.in_ok-write_end.ensures)
    c.write_closing.ensures

use Rattle.std.proofs.Common.{length}
use Rattle.hq_chart.specs.Chart.{end_line, end_note, height_of}
use Rattle.hq_chart.proofs.Drawn.{then_more}
use Rattle.hq_chart.proofs.writing.write_refusal.Goals as goal

pub returns : goal.returns
returns g c =
    then_more c.write_end_note.result (g.W.Write.contents c.args.writer.now) (g.W.Write.contents c.write_end_line.new.writer) (g.W.Write.contents c.write_end_note.new.writer)
    (end_line (length c.args.events.now) (height_of c.args.job.now c.args.copies)) (end_note (length c.args.events.now)) c.in_ok-write_end_line.ensures c.write_end_note.ensures

use Rattle.std.proofs.Common.{length, subst, ◌+◌, OnOk}
use Rattle.std.specs.Io.KnownBytes.{Appends}
use Rattle.hq_chart.specs.Chart.{opening_text, legend_text, height_of}
use Rattle.hq_chart.proofs.Drawn.{then_more}
use Rattle.hq_chart.proofs.writing.write_head.Goals as goal

pub returns : goal.returns
returns g c =
    then_more c.write_legend.result (g.W.Write.contents c.args.writer.now) (g.W.Write.contents c.write_opening.new.writer) (g.W.Write.contents c.write_legend.new.writer)
    (opening_text (length c.args.events.now + 40) (height_of c.args.job.now c.args.copies)) (legend_text c.args.job.now.rings) c.in_ok-write_opening.ensures
    (subst (λ rings. OnOk c.write_legend.result (Appends (g.W.Write.contents c.write_opening.new.writer) (g.W.Write.contents c.write_legend.new.writer) (legend_text rings))) c.rings.ensures c.write_legend.ensures)

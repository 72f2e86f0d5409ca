use Rattle.std.proofs.Common.{subst, ap, ◌∙◌}
use Rattle.std.specs.Io.KnownBytes.{Appends}
use Rattle.hq_chart.specs.Chart.{drawn_text}
use Rattle.hq_chart.specs.Rows.{rows_of}
use Rattle.hq_chart.proofs.drawing.chart.Goals as goal

pub returns-clause-drawn : goal.returns-clause-drawn
returns-clause-drawn g c =
    subst (λ rows. Appends (g.W.Write.contents c.args.writer.now) (g.W.Write.contents c.write_all.new.writer) (drawn_text c.args.job.now c.args.copies rows c.args.events.now c.args.is_refused))
    (c.deref_mut.ensures.value ∙ c.in_ok-rows.ensures ∙ ap rows_of c.packets.ensures) c.in_ok-write_all.ensures

use Rattle.std.proofs.Common.{subst, ◌∙◌}
use Rattle.std.specs.Io.KnownBytes.{Appends}
use Rattle.hq_chart.specs.Chart.{part_text}
use Rattle.hq_chart.proofs.Drawn.{rows_more, text_more}
use Rattle.hq_chart.proofs.writing.write_events.Goals as goal

pub loop-place-preserved : goal.loop-place-preserved
loop-place-preserved g c = (
  text_more _ (g.W.Write.contents c.loop-place.writer) (g.W.Write.contents c.write_part.new.writer) c.args.job.now c.args.copies c.args.rows.now c.loop-place.rows c.args.events.now c.loop-place.place _ c.loop-place-test.true c.loop-place.invariant.1 c.loop-place.invariant.0
      (subst (λ s. Appends (g.W.Write.contents c.loop-place.writer) (g.W.Write.contents c.write_part.new.writer) (part_text c.args.job.now s)) c.shape_of-shape.ensures c.in_ok-write_part.ensures),
  c.advance.ensures ∙ rows_more c.args.rows.now c.loop-place.rows c.args.events.now c.loop-place.place _ c.loop-place-test.true c.loop-place.invariant.1,
)

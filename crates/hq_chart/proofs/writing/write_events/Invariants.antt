use Rattle.std.proofs.Common.{◌≡◌, take}
use Rattle.std.specs.Io.KnownBytes.{Appends}
use Rattle.hq_chart.specs.Chart.{events_text}
use Rattle.hq_chart.specs.Rows.{rows_after}
use Rattle.hq_chart.proofs.writing.write_events.Given as goal

abbrev pub invariant-loop-place : goal.invariant-loop-place
invariant-loop-place g l =
    Appends (g.W.Write.contents l.initial.writer) (g.W.Write.contents l.writer) (events_text l.job l.copies l.initial.rows 0 (take l.place l.events)) × (l.rows ≡ rows_after l.initial.rows 0 (take l.place l.events))

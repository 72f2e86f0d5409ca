use Rattle.std.specs.Io.KnownBytes.{Appends}
use Rattle.hq_chart.specs.Chart.{rows_text}
use Rattle.hq_chart.proofs.writing.write_rows.Given as goal

abbrev pub invariant-loop-packet : goal.invariant-loop-packet
invariant-loop-packet g l = Appends (g.W.Write.contents l.initial.writer) (g.W.Write.contents l.writer) (rows_text l.job l.packet)

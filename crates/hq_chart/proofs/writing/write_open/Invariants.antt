use Rattle.std.specs.Io.KnownBytes.{Appends}
use Rattle.hq_chart.specs.Chart.{open_text}
use Rattle.hq_chart.proofs.writing.write_open.Given as goal

abbrev pub invariant-loop-packet : goal.invariant-loop-packet
invariant-loop-packet g l = Appends (g.W.Write.contents l.initial.writer) (g.W.Write.contents l.writer) (open_text l.job l.rows l.end l.packet)

use Rattle.std.specs.Io.KnownBytes.{Appends}
use Rattle.hq_chart.specs.Chart.{agents_text}
use Rattle.hq_chart.proofs.writing.write_agents.Given as goal

abbrev pub invariant-loop-agent : goal.invariant-loop-agent
invariant-loop-agent g l = Appends (g.W.Write.contents l.initial.writer) (g.W.Write.contents l.writer) (agents_text l.job l.agent)

use Rattle.std.proofs.Common.{subst, codes}
use Rattle.std.specs.Fmt.{HasWritten, decimal}
use Rattle.hq_chart.proofs.Drawn.{five_parts}
use Rattle.hq_chart.proofs.writing.AgentTextDisplay.fmt.Goals as goal

pub returns-clause-writes : goal.returns-clause-writes
returns-clause-writes g c =
    λ plain ok. subst (λ t. HasWritten {W = g.row.W.Denot} g.W.Write.write_str_gives c.args.f.now t c.write.new.self)
    (five_parts (codes "<text x='-156' y='") (decimal c.args.self.now.y) (codes "' dy='4'>agent ") c.args.self.now.name (codes "</text>\n")) (c.write.ensures.writes plain ok)

use Rattle.std.proofs.Common.{subst, codes}
use Rattle.std.specs.Fmt.{HasWritten, decimal}
use Rattle.hq_chart.proofs.Drawn.{five_parts}
use Rattle.hq_chart.proofs.writing.EndNoteDisplay.fmt.Goals as goal

pub returns-clause-writes : goal.returns-clause-writes
returns-clause-writes g c =
    λ plain ok. subst (λ t. HasWritten {W = g.row.W.Denot} g.W.Write.write_str_gives c.args.f.now t c.write.new.self)
    (five_parts (codes "<text x='") (decimal c.args.self.now.0) (codes "0' y='58' dx='4'>event ") (decimal c.args.self.now.0) (codes " is not enabled</text>\n")) (c.write.ensures.writes plain ok)

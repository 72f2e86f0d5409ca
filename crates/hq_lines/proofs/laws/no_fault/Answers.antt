use Rattle.hq_lines.proofs.Whole.{no_line_fault}
use Rattle.hq_lines.proofs.laws.no_fault.Goals as goal

pub returns : goal.returns
returns c = no_line_fault

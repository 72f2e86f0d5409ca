use Rattle.hq_lines.specs.Meaning.{view}
use Rattle.hq_lines.proofs.Ranges.{found_fits}
use Rattle.hq_lines.proofs.Whole.{only_line}
use Rattle.hq_lines.proofs.read.read_line.Goals as goal

pub returns-clause-only : goal.returns-clause-only
returns-clause-only c = λ m h. only_line view c.line_said.result c.args.line.now m c.line_said.ensures.found c.line_said.ensures.fault h

pub returns-clause-fits : goal.returns-clause-fits
returns-clause-fits c = found_fits view c.line_said.result c.args.line.now c.line_said.ensures.found

use Rattle.hq_text.specs.Lines.{lines_of}
use Rattle.hq_jobtext.proofs.Whole.{text_only}
use Rattle.hq_jobtext.proofs.reader.read_text.Goals as goal

pub returns-clause-only : goal.returns-clause-only
returns-clause-only c job t = text_only (λ j. j) c.read_all.result (lines_of c.args.text.now) job c.read_all.ensures t

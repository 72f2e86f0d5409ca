use Rattle.hq_text.specs.Lines.{words_of}
use Rattle.hq_lines.proofs.Whole.{one_meaning}
use Rattle.hq_lines.proofs.laws.one_meaning.Goals as goal

pub returns-clause-words : goal.returns-clause-words
returns-clause-words c = one_meaning

pub returns-clause-line : goal.returns-clause-line
returns-clause-line c = λ line m n h k. one_meaning (words_of line) m n h.words k.words

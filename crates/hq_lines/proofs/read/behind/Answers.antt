use Rattle.std.proofs.lemmas.Slice.Eq.{strip_prefix_is}
use Rattle.hq_lines.proofs.Digits.{same_numbers}
use Rattle.hq_lines.proofs.read.behind.Goals as goal

pub returns : goal.returns
returns c = strip_prefix_is same_numbers c.args.line.now c.args.first.now c.strip_prefix.result c.strip_prefix.ensures.cases

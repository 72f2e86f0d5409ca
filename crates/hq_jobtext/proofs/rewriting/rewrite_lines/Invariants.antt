use Rattle.std.proofs.Common.{length}
use Rattle.hq_jobtext.proofs.RewrittenLines.{Partly}
use Rattle.hq_jobtext.proofs.rewriting.rewrite_lines.Given as goal

abbrev pub invariant-loop-at : goal.invariant-loop-at
invariant-loop-at l = Partly l.heads l.numbers l.text l.rest l.left l.new.items

abbrev pub decreases-loop-at : goal.decreases-loop-at
decreases-loop-at l = length l.rest

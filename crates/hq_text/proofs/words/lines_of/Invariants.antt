use Rattle.std.proofs.Common.{◌≡◌, ◌++◌, length, map}
use Rattle.hq_text.specs.Lines.{lines_of}
use Rattle.hq_text.proofs.words.lines_of.Given as goal

abbrev pub invariant-loop-rest : goal.invariant-loop-rest
invariant-loop-rest l = lines_of l.text ≡ map (λ line. line.now) l.lines.items ++ lines_of l.rest

abbrev pub decreases-loop-rest : goal.decreases-loop-rest
decreases-loop-rest l = length l.rest

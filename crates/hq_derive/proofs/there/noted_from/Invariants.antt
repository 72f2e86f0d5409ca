use Rattle.hq_derive.specs.Gathered.{lines_of}
use Rattle.hq_derive.specs.Needed.{AllThere}
use Rattle.hq_derive.proofs.there.noted_from.Given as goal

abbrev pub invariant-loop-k : goal.invariant-loop-k
invariant-loop-k l = AllThere l.noted (lines_of l.lines)

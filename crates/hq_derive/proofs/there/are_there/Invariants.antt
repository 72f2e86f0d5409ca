use Rattle.std.proofs.Common.{ℕ, ◌<◌}
use Rattle.hq_derive.specs.Gathered.{lines_of}
use Rattle.hq_derive.specs.Needed.{HasLine, IsNeeded}
use Rattle.hq_derive.proofs.there.are_there.Given as goal

-- so it is of the first packets
abbrev pub invariant-loop-p : goal.invariant-loop-p
invariant-loop-p l = (p r : ℕ) → p < l.p → IsNeeded l.needs p r → HasLine (lines_of l.lines) p r

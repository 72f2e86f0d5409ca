use Rattle.std.proofs.Common.{ℕ, ◌-◌, ◌≤◌, length}
use Rattle.hq_derive.specs.Gathered.{lines_of}
use Rattle.hq_derive.specs.Needed.{IsNumber}
use Rattle.hq_derive.proofs.lines.Lines.search.Given as goal

-- the line stands here or further on
abbrev pub invariant-lines : goal.invariant-lines
invariant-lines l = (j : ℕ) × (l.k ≤ j) × IsNumber (lines_of l.self) l.p l.r j

abbrev pub decreases-lines : goal.decreases-lines
decreases-lines l = length (lines_of l.self) - l.k

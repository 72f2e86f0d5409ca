use Rattle.std.proofs.Common.{ℕ, ◌<◌}
use Rattle.hq_derive.specs.Rests.{ByBranch}
use Rattle.hq_derive.proofs.grounds.branch_of.Given as goal

abbrev pub invariant-loop-d : goal.invariant-loop-d
invariant-loop-d l = (i : ℕ) → i < l.d → ByBranch l.before l.round l.p l.signal i → ⊥

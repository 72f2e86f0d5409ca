use Rattle.std.proofs.Common.{◌≡◌, ℕ, ◌<◌}
use Rattle.std.specs.Prelude.{slice_index_or}
use Rattle.hq_tables.specs.Tables.{IsUndeclared}
use Rattle.hq_tables.proofs.tables.Tables.some_undeclared.Given as goal

abbrev pub invariant-loop-dep : goal.invariant-loop-dep
invariant-loop-dep l = (k d : ℕ) → k < l.dep-index → slice_index_or l.deps k d ≡ d → ¬ IsUndeclared l.self.signals d

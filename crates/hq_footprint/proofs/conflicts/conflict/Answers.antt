use Rattle.std.proofs.Common.{refl, sym, ◌∙◌}
use Rattle.hq_footprint.proofs.Flags.{set_conflict, conflict_set}
use Rattle.hq_footprint.proofs.conflicts.conflict.Goals as goal

pub returns-then-is_some-clause-found : goal.returns-then-is_some-clause-found
returns-then-is_some-clause-found c = (λ t. set_conflict _ _ c.kinds_of-kinds.result c.kinds_of-kinds.ensures (sym c.is_some.ensures ∙ c.if-is_some.true), λ t. refl)

pub returns-else-is_some-clause-found : goal.returns-else-is_some-clause-found
returns-else-is_some-clause-found c = (λ t. cc, λ s. sym c.if-is_some.false ∙ c.is_some.ensures ∙ conflict_set _ _ c.kinds_of-kinds.result c.kinds_of-kinds.ensures s)

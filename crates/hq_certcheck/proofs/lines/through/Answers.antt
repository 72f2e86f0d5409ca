use Rattle.std.proofs.Common.{sym, ◌∙◌}
use Rattle.hq_ordercheck.proofs.Options.{none_some}
use Rattle.hq_certcheck.proofs.lines.through.Goals as goal

pub returns-in-None : goal.returns-in-None
returns-in-None c = (
  λ t. let never : ⊥ = cc in absurd never,
  λ h. absurd (none_some h.0 (sym c.in-None.is ∙ (c.follower.ensures h.0).1 h.1)),
)

use Rattle.std.proofs.Common.{sym, ◌∙◌}
use Rattle.hq_schedule.proofs.scheduling.may_follow.Goals as goal

pub returns-then-has : goal.returns-then-has
returns-then-has c = (λ t. absurd (cc), λ may. absurd (may.new (sym c.has.ensures ∙ c.if-has.true)))

use Rattle.std.proofs.Common.{subst}
use Rattle.hq_audit.specs.Refused.{AllShown}
use Rattle.hq_change.proofs.trial.judged.Goals as goal

pub returns-clause-shown : goal.returns-clause-shown
returns-clause-shown c = λ t. subst AllShown c.over-before.ensures (c.is_ordered-ordered.ensures.shown t)

use Rattle.std.proofs.Common.{sym, ◌∙◌}
use Rattle.hq_change.proofs.Trials.{all_are_shown}
use Rattle.hq_change.proofs.trial.is_ordered.Goals as goal

pub returns-clause-shown : goal.returns-clause-shown
returns-clause-shown c = λ t. all_are_shown c.args.before.now c.all_shown.result c.all_shown.ensures.shown (sym c.is_ok.ensures.value ∙ t)

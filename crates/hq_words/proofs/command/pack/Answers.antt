use Rattle.std.proofs.Common.{ap, ap₂, ◌∙◌}
use Rattle.std.proofs.lemmas.Result.{IfOk-weaker}
use Rattle.clap.specs.Words.{with_rule}
use Rattle.clap.specs.Simple.{app_of_fields}
use Rattle.hq_words.proofs.command.pack.Goals as goal

pub returns-clause-app : goal.returns-clause-app
returns-clause-app c = IfOk-weaker c.arg.result _ _ (λ r adds. adds.shape c.fields.ensures.local ∙ ap₂ with_rule (ap app_of_fields c.after_help.ensures ∙ ap app_of_fields c.override_usage.ensures ∙ ap app_of_fields c.about.ensures ∙ c.new.ensures.app) c.fields.ensures.rule) c.arg.ensures

use Rattle.std.proofs.Common.{◌≡◌, false, ap₂, ◌∙◌, ◌||◌}
use Rattle.std.proofs.lemmas.Result.{IfOk-weaker}
use Rattle.clap.specs.Words.{app_of, rule_of, with_rule}
use Rattle.clap.specs.declared.builder.command.Command.TheViews.{out-Command as fields_of}
use Rattle.hq_words.proofs.Below.{is_there}
use Rattle.hq_words.proofs.command.taking.Goals as goal

pub returns-clause-app : goal.returns-clause-app
returns-clause-app c =
    let argument = c.args.argument in
    IfOk-weaker c.arg.result _ _ (λ r adds.
    is_there (λ w. argument.global ≡ false → app_of r ≡ with_rule (app_of w) (rule_of argument)) c.args.command _ c.in_ok-command.was adds.shape) c.arg.ensures

pub returns-clause-local : goal.returns-clause-local
returns-clause-local c =
    let argument = c.args.argument in
    IfOk-weaker c.arg.result _ _ (λ r adds.
    is_there (λ w. argument.global ≡ false → (fields_of w).has_globals ≡ false → (fields_of r).has_globals ≡ false) c.args.command _ c.in_ok-command.was (λ own outer. adds.globals ∙ ap₂ (λ a b. a || b) outer own)) c.arg.ensures

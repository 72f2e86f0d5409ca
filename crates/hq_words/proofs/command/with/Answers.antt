use Rattle.std.proofs.Common.{◌≡◌, false}
use Rattle.std.proofs.lemmas.Result.{IfOk-weaker}
use Rattle.clap.specs.Words.{app_of, with_subcommand}
use Rattle.clap.specs.declared.builder.command.Command.TheViews.{out-Command as fields_of}
use Rattle.hq_words.proofs.Below.{both_there}
use Rattle.hq_words.proofs.command.with.Goals as goal

pub returns : goal.returns
returns c =
    IfOk-weaker c.subcommand.result _ _ (λ r adds.
    both_there (λ w b. (fields_of b).has_globals ≡ false → app_of r ≡ with_subcommand (app_of w) (app_of b).top) c.args.command c.args.below _ _ c.in_ok-command.was c.in_ok-below.was adds.shape) c.subcommand.ensures

use Rattle.std.proofs.Common.{ap, ◌≡◌, true, refl, ◌∙◌, map}
use Rattle.clap.specs.Words.{App, is_simple, subcommand_of, takes}
use Rattle.clap.proofs.OnLiterals.{clap_on_literals}
use Rattle.hq_words.specs.Commands.{hsaq_app}
use Rattle.hq_words.proofs.words.matches_of_all.Goals as goal

simple : is_simple hsaq_app ≡ true
unfolding clap_on_literals
simple = refl

pub returns : goal.returns
returns c =
    record {
      found = tt;
      refused = λ _ taken. absurd (c.in_default.not-OutOfMemory (c.kind.ensures ∙ c.in-Err.ensures.passes (ap (λ (a : App). takes a (map (λ w. w.now) c.args.words.now)) c.in_ok-command.ensures ∙ taken)));
    }

pub returns-in-Ok-clause-found : goal.returns-in-Ok-clause-found
returns-in-Ok-clause-found c =
    (c.in-Ok.ensures.matches (ap is_simple c.in_ok-command.ensures ∙ simple)).1 ∙ ap (λ (a : App). subcommand_of a (map (λ w. w.now) c.args.words.now)) c.in_ok-command.ensures

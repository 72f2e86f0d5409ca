use Rattle.std.proofs.Common.{rules, ap, ◌≡◌, List, codes, map, true, refl, [], ◌∷◌, ◌∙◌}
use Rattle.std.proofs.lemmas.Result.{IfErr-weaker}
use Rattle.clap.specs.Words.{Text, takes}
use Rattle.clap.proofs.OnLiterals.{clap_on_literals}
use Rattle.hq_words.specs.Commands.{hsaq_app}
use Rattle.hq_words.proofs.words.command_of.Goals as goal

abbrev words : List Text
words = codes "audit" ∷ codes "@" ∷ []

taken : takes hsaq_app words ≡ true
unfolding clap_on_literals
taken = refl

pub returns-then-is_empty-clause-some : goal.returns-then-is_empty-clause-some
returns-then-is_empty-clause-some c =
    let words_are : map (λ w. w.now) c.as_slice.result.now ≡ words = search rules in
    IfErr-weaker c.asked_of.result _ _ (λ f refused of_words. absurd (refused of_words (ap (takes hsaq_app) words_are ∙ taken))) c.asked_of.ensures.refused

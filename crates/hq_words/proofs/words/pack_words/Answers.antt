use Rattle.std.proofs.Common.{ap, ◌∙◌, sym, map, Some, codes}
use Rattle.std.proofs.lemmas.Result.{IfOk-weaker}
use Rattle.clap.specs.Words.{found_of}
use Rattle.clap.proofs.WalkLemmas.{raw_values-rows}
use Rattle.hq_words.proofs.words.pack_words.Goals as goal

pub returns-in-Some : goal.returns-in-Some
returns-in-Some c =
    IfOk-weaker c.from_slice.result _ _ (λ words same. sym (raw_values-rows (found_of c.args.own.now) (codes "WORDS")) ∙ sym c.in-Some.ensures ∙ ap (λ ws. Some (map (λ w. w.now) ws)) (sym same)) c.from_slice.ensures.items

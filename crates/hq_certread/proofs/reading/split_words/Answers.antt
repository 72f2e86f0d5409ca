use Rattle.std.proofs.Common.{rules, ap, ◌∙◌, ◌++◌}
use Rattle.std.specs.Prelude.{map}
use Rattle.std.specs.Slice.Iter as slice
use Rattle.std.proofs.lemmas.Iterator.Adapters.{fact_from_extend}
use Rattle.std.proofs.lemmas.Iterator.Splits.{YieldsList-from_slice_split}
use Rattle.hq_text.specs.Lines.{is_space}
use Rattle.hq_certread.proofs.reading.split_words.Goals as goal

pub returns : goal.returns
returns c =
    fact_from_extend {steps = slice.split_steps _} (λ w. w.now) c.extend.result c.extend.ensures.ran
    (λ it b. YieldsList-from_slice_split {s = it} _ is_space c.args.line.now (ap slice.split_rest b ∙ c.split.ensures.rest) (ap slice.split_done b ∙ c.split.ensures.done) (ap slice.split_callee b ∙ c.split.ensures.closure) (search rules))
    (λ xs e h. ap (map (λ w. w.now)) (h.0 ∙ ap (λ ys. ys ++ xs) c.clear.ensures.items) ∙ e)

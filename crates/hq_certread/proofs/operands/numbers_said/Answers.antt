use Rattle.std.proofs.Common.{◌∙◌, sym}
use Rattle.std.proofs.lemmas.Result.{err_from_is_err_and}
use Rattle.hq_certread.specs.LineTests.{number_said}
use Rattle.hq_certread.proofs.Each.{each_more, each_fault, each_end, fails_if}
use Rattle.hq_certread.proofs.operands.numbers_said.Goals as goal

pub returns-in_err-number_said : goal.returns-in_err-number_said
returns-in_err-number_said c =
    let p = err_from_is_err_and c.from_residual-in_err-number_said.result c.from_residual-in_err-number_said.ensures.1 in
    rw (p.1, p.2) (fails_if _ _ (sym c.loop-word.invariant ∙ each_fault number_said (λ w. w.now) c.args.words.now c.loop-word.word-index _ c.loop-word.numbers.items c.in_err-number_said.field-0.0 c.loop-word-test.true (sym c.number_said.ensures ∙ c.in_err-number_said.was)))

pub loop-word-preserved : goal.loop-word-preserved
loop-word-preserved c =
    each_more number_said (λ w. w.now) c.args.words.now c.loop-word.word-index _ c.loop-word.numbers.items _ c.in_ok-number_said.field-0 _ c.loop-word-test.true (sym c.number_said.ensures ∙ c.in_ok-number_said.was) c.in_ok-push.ensures.items c.loop-word.invariant

pub returns : goal.returns
returns c = sym c.loop-word.invariant ∙ each_end number_said (λ w. w.now) c.args.words.now c.loop-word.word-index c.loop-word.numbers.items c.loop-word-test.false

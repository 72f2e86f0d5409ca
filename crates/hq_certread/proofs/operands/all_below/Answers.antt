use Rattle.std.proofs.Common.{◌∙◌, sym}
use Rattle.std.specs.Prelude.{map}
use Rattle.std.proofs.lemmas.Result.{err_from_is_err_and}
use Rattle.hq_cert.specs.View.{cited}
use Rattle.hq_certread.specs.LineTests.{cited_below}
use Rattle.hq_certread.proofs.Each.{plain_more, plain_fails, plain_end}
use Rattle.hq_certread.proofs.operands.all_below.Goals as goal

pub returns-in_err-cited_below : goal.returns-in_err-cited_below
returns-in_err-cited_below c =
    let p = err_from_is_err_and c.from_residual-in_err-cited_below.result c.from_residual-in_err-cited_below.ensures.1 in
    rw (p.1, p.2) (plain_fails (cited_below c.args.limit) c.args.numbers.now c.loop-number.number-index _ (map cited c.loop-number.citations.items) c.in_err-cited_below.field-0.0 _ c.loop-number-test.true c.in_err-cited_below.ensures c.loop-number.invariant)

pub loop-number-preserved : goal.loop-number-preserved
loop-number-preserved c =
    plain_more (cited_below c.args.limit) cited c.args.numbers.now c.loop-number.number-index _ c.loop-number.citations.items _ c.in_ok-cited_below.field-0 _ c.loop-number-test.true c.in_ok-cited_below.ensures c.in_ok-push.ensures.items c.loop-number.invariant

pub returns : goal.returns
returns c = sym c.loop-number.invariant ∙ plain_end (cited_below c.args.limit) c.args.numbers.now c.loop-number.number-index (map cited c.loop-number.citations.items) c.loop-number-test.false

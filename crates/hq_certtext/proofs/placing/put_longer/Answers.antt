use Rattle.std.proofs.Common.{◌∷◌, ◌++◌, arith, take, ap, sym, ◌∙◌, ◌/◌}
use Rattle.std.specs.Fmt.{decimal}
use Rattle.hq_certtext.proofs.Placed.{thousands}
use Rattle.hq_certtext.proofs.placing.put_longer.Goals as goal

pub returns-in-Some-Some-clause-put : goal.returns-in-Some-Some-clause-put
returns-in-Some-Some-clause-put c =
    let m = c.in-Some-Some in
    let number = c.args.number in
    let both = ap (λ t. t ++ take 3 m.rest.now.digits) m.ensures.word ∙ ap (λ t. 32 ∷ decimal (number / 1000) ++ t) m.ensures'.digits in
    c.put_both.ensures.put ∙ ap (λ t. take c.args.at c.args.bytes.now ++ t) (both ∙ ap (λ t. 32 ∷ t) (sym (thousands number (omega arith) (omega arith))))

use Rattle.std.proofs.Common.{◌++◌, arith, sym, ap, ◌∙◌}
use Rattle.std.proofs.lemmas.Bool.{cond-true}
use Rattle.std.proofs.lemmas.List.{append-nil}
use Rattle.hq_copies.specs.Edges.{unless}
use Rattle.hq_copies.proofs.Covers.{even_is, odd_is}
use Rattle.hq_copies.proofs.runs.add_if_even.Goals as goal

pub returns-then-count-eq1-clause-edges : goal.returns-then-count-eq1-clause-edges
returns-then-count-eq1-clause-edges c xs e = sym (ap (λ t. c.args.edges.now.items ++ unless t c.args.edge) (odd_is xs (λ h. absurd (omega (arith, c.if-count-eq1.true, e, h)))) ∙ append-nil c.args.edges.now.items)

pub returns-clause-edges : goal.returns-clause-edges
returns-clause-edges c xs e =
    c.push.ensures.items ∙ cond-true _ _ _ c.if-is_err.ensures.negation
    ∙ sym (ap (λ t. c.args.edges.now.items ++ unless t c.args.edge) (even_is xs (omega (arith, c.if-count-eq1.false, e))))

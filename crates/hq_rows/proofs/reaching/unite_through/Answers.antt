use Rattle.std.proofs.Common.{◌≡◌, sym, ◌∙◌, subst}
use Rattle.hq_bits.specs.Bits.{Grown}
use Rattle.hq_rows.proofs.Gathered.{through_exact}
use Rattle.hq_rows.proofs.reaching.unite_through.Goals as goal

pub returns-clause-grown : goal.returns-clause-grown
returns-clause-grown c = subst (λ row. Grown row c.unite_fresh.new.new) c.requires.start c.unite_fresh.ensures.grown

pub returns-clause-exact : goal.returns-clause-exact
returns-clause-exact c = λ p.
    let known = c.args.known.now in
    let first : c.args.new.now ≡ c.row_of-row.result.now = c.requires.start ∙ sym c.row_of-row.ensures in
    through_exact known.earlier.now known.rows.now known.renewed.now c.row_of-row.result.now c.row_of-earlier.result.now c.args.new.now c.unite_fresh.new.new p c.args.r c.row_of-row.ensures c.row_of-earlier.ensures first c.requires.stepped (c.unite_fresh.ensures.exact p)

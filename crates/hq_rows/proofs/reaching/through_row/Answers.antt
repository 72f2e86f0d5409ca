use Rattle.std.proofs.Common.{◌↔◌, length, sym, ◌∙◌, ap, subst, IsTrue}
use Rattle.hq_bits.specs.Bits.{has, Grown}
use Rattle.hq_rows.specs.Matrix.{row}
use Rattle.hq_rows.specs.Uniting.{Through}
use Rattle.hq_rows.proofs.Rows.{given_back}
use Rattle.hq_rows.proofs.reaching.through_row.Goals as goal

pub unite_through-requires-clause-start : goal.unite_through-requires-clause-start
unite_through-requires-clause-start c = c.deref_mut.ensures.value ∙ c.in_ok-new.ensures.items_if_clones_equal (λ y e h. h) ∙ c.row_of.ensures

pub returns-clause-grown : goal.returns-clause-grown
returns-clause-grown c =
    let back = given_back c.in_ok-new.new.len c.in_ok-new.new.items c.unite_through.new.new (sym c.in_ok-new.new.ok.0) (c.unite_through.auto.new ∙ ap length c.deref_mut.ensures.value) in
    subst (Grown (row c.args.known.now.rows.now c.args.r)) (sym back) c.unite_through.ensures.grown

pub returns-clause-exact : goal.returns-clause-exact
returns-clause-exact c = λ p.
    let back = given_back c.in_ok-new.new.len c.in_ok-new.new.items c.unite_through.new.new (sym c.in_ok-new.new.ok.0) (c.unite_through.auto.new ∙ ap length c.deref_mut.ensures.value) in
    subst (λ words. IsTrue (has words p) ↔ Through c.args.known.now.rows.now p c.args.r) (sym back) (c.unite_through.ensures.exact p)

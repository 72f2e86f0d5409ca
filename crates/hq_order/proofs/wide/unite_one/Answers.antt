use Rattle.std.proofs.Common.{◌↔◌, length, sym, ◌∙◌, ap, subst, arith, IsTrue}
use Rattle.hq_bits.specs.Bits.{has, Grown}
use Rattle.hq_rows.specs.Matrix.{row}
use Rattle.hq_rows.specs.Uniting.{CanUnite, Through}
use Rattle.hq_rows.proofs.Rows.{given_back}
use Rattle.hq_order.proofs.wide.unite_one.Goals as goal

pub unite_through-requires-clause-unions : goal.unite_through-requires-clause-unions
unite_through-requires-clause-unions c =
    let known = c.args.known.now in
    subst (λ words. CanUnite known.rows.now words known.unions.now) (sym (c.requires.can.square.width c.args.r c.requires.low)) c.requires.can.unions

pub unite_through-requires-clause-few : goal.unite_through-requires-clause-few
unite_through-requires-clause-few c = omega (arith, c.requires.can.square.few, c.requires.can.square.width c.args.r c.requires.low)

pub unite_through-requires-clause-start : goal.unite_through-requires-clause-start
unite_through-requires-clause-start c = c.deref_mut.ensures.value ∙ c.requires.copy

pub returns : goal.returns
returns c =
    let rows = c.args.known.now.rows.now in
    let old = c.args.row.now in
    let new = c.unite_through.new.new in
    let back = given_back old.len old.items new (sym old.ok.0) (c.unite_through.auto.new ∙ ap length c.deref_mut.ensures.value) in
    record {
      grown = subst (Grown (row rows c.args.r)) (sym back) c.unite_through.ensures.grown;
      exact = λ p. subst (λ words. IsTrue (has words p) ↔ Through rows p c.args.r) (sym back) (c.unite_through.ensures.exact p);
    }

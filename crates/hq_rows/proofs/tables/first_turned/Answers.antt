use Rattle.std.proofs.Common.{◌≡◌, ◌+◌, ◌*◌, sym, ◌∙◌, ap, arith, inl, inr, subst, IsTrue, true, false}
use Rattle.std.proofs.lemmas.Bool.{cases_lt}
use Rattle.hq_bits.specs.Bits.{has}
use Rattle.hq_rows.specs.Matrix.{row, Marks, matrix}
use Rattle.hq_rows.proofs.Rows.{row_is}
use Rattle.hq_rows.proofs.tables.first_turned.Goals as goal

pub loop-k-preserved : goal.loop-k-preserved
loop-k-preserved c = λ j l m. elim (cases_lt j c.loop-k.k) [
  | inl low ↦ c.loop-k.invariant j low m
  | inr high ↦
      let here : j ≡ c.loop-k.k = omega arith in
      let below = c.loop-k-test.true in
      let is = row_is c.args.tables.now c.loop-k.k c.index-tables-k.result below c.index-tables-k.is ∙ sym c.deref.ensures.value in
      let exact = (c.requires.turned.each c.loop-k.k below).exact c.args.p c.args.r c.requires.p c.requires.r in
      let there : IsTrue (has (row c.args.tables.now c.loop-k.k) (c.args.p * 1024 + c.args.r)) = exact.1 (subst (λ i. Marks (matrix c.args.rounds.now i) c.args.p c.args.r) here m) in
      let x : false ≡ true = sym c.if-has.false ∙ c.has.ensures ∙ ap (λ t. has t (c.args.p * 1024 + c.args.r)) (sym is) ∙ there in
      cc
]

pub returns-then-has : goal.returns-then-has
returns-then-has c =
    let below = c.loop-k-test.true in
    let is = row_is c.args.tables.now c.loop-k.k c.index-tables-k.result below c.index-tables-k.is ∙ sym c.deref.ensures.value in
    let exact = (c.requires.turned.each c.loop-k.k below).exact c.args.p c.args.r c.requires.p c.requires.r in
    record {
      low = omega (arith, c.requires.turned.len);
      there = exact.0 (ap (λ t. has t (c.args.p * 1024 + c.args.r)) is ∙ sym c.has.ensures ∙ c.if-has.true);
      first = c.loop-k.invariant;
    }

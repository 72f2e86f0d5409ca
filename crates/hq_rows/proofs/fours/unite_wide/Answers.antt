use Rattle.std.proofs.Common.{sym, ◌∙◌, ap, subst, arith}
use Rattle.hq_bits.specs.Bits.{has}
use Rattle.hq_bits.specs.Bits.{Grown}
use Rattle.hq_rows.proofs.Quartets.{Even, five_done, five_grown, five_has}
use Rattle.hq_rows.proofs.fours.unite_wide.Goals as goal

pub returns-clause-grown : goal.returns-clause-grown
returns-clause-grown c =
    let row = c.args.row.now in
    let even : Even row c.args.a.now c.args.b.now c.args.c.now c.args.d.now = record { first = c.requires.row ∙ sym c.requires.a; second = c.requires.row ∙ sym c.requires.b; third = c.requires.row ∙ sym c.requires.c; fourth = c.requires.row ∙ sym c.requires.d } in
    let done = five_done row c.args.a.now c.args.b.now c.args.c.now c.args.d.now c.loop-i.row c.loop-i.i even (omega (arith, c.requires.row, c.loop-i-test.false)) c.loop-i.invariant in
    subst (Grown row) (sym done) (five_grown row c.args.a.now c.args.b.now c.args.c.now c.args.d.now even)

pub returns-clause-exact : goal.returns-clause-exact
returns-clause-exact c = λ p.
    let row = c.args.row.now in
    let even : Even row c.args.a.now c.args.b.now c.args.c.now c.args.d.now = record { first = c.requires.row ∙ sym c.requires.a; second = c.requires.row ∙ sym c.requires.b; third = c.requires.row ∙ sym c.requires.c; fourth = c.requires.row ∙ sym c.requires.d } in
    let done = five_done row c.args.a.now c.args.b.now c.args.c.now c.args.d.now c.loop-i.row c.loop-i.i even (omega (arith, c.requires.row, c.loop-i-test.false)) c.loop-i.invariant in
    ap (λ words. has words p) done ∙ five_has row c.args.a.now c.args.b.now c.args.c.now c.args.d.now p even

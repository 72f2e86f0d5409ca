use Rattle.std.proofs.Common.{◌≡◌, ◌<◌, sym, ◌∙◌, arith, length, inl, inr, ap}
use Rattle.std.proofs.lemmas.Bool.{cases_lt}
use Rattle.hq_rows.specs.Matrix.{row}
use Rattle.hq_rows.proofs.Rows.{row_is}
use Rattle.hq_rows.proofs.tables.are_same.Goals as goal

pub loop-r-preserved : goal.loop-r-preserved
loop-r-preserved c = λ r l. elim (cases_lt r c.loop-r.r) [
  | inl low ↦ c.loop-r.invariant r low
  | inr high ↦
      let below : c.loop-r.r < length c.args.left.now = c.loop-r-test.true in
      let here : r ≡ c.loop-r.r = omega arith in
      let left = row_is c.args.left.now c.loop-r.r c.index-left-r.result c.loop-r-test.true c.index-left-r.is in
      let right = row_is c.args.right.now c.loop-r.r c.index-right-r.result (omega (arith, c.requires)) c.index-right-r.is in
      ap (row c.args.left.now) here ∙ left ∙ sym c.deref.ensures.value ∙ c.is_same.ensures.same.0 c.if-not-is_same.false ∙ c.deref-in-loop-r.ensures.value ∙ sym right ∙ sym (ap (row c.args.right.now) here)
]

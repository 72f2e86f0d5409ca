use Rattle.std.proofs.Common.{◌-◌, ◌<◌, length, sym, subst, arith, inl, inr}
use Rattle.std.proofs.lemmas.Bool.{cases_eq}
use Rattle.hq_rows.specs.Matrix.{Marks}
use Rattle.hq_rows.specs.Uniting.{Through}
use Rattle.hq_rows.proofs.Rows.{marked_below}
use Rattle.hq_rows.proofs.reaching.are_whole.Goals as goal

pub loop-behind-preserved : goal.loop-behind-preserved
loop-behind-preserved c = λ p r low from through.
    let rows = c.args.known.now.rows.now in
    elim (cases_eq r (length rows - 1 - c.loop-behind.behind)) [
      | inl same ↦ subst (λ k. Marks rows p k) (sym same) (c.is_whole.ensures c.if-not-is_whole.false p (subst (λ k. Through rows p k) same through))
      | inr apart ↦ c.loop-behind.invariant p r low (omega (arith, low, from, apart)) through
    ]

pub returns : goal.returns
returns c = λ t p r through.
    let rows = c.args.known.now.rows.now in
    let low : r < length rows = elim through [ inl m ↦ marked_below rows p r m | inr x ↦ marked_below rows x.0 r x.2 ] in
    c.loop-behind.invariant p r low (omega (arith, c.loop-behind-test.false)) through

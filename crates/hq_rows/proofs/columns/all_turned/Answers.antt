use Rattle.std.proofs.Common.{◌+◌, ◌∷◌, [], ◌∙◌, ap, sym, subst, refl, arith, length, length-append}
use Rattle.hq_rows.specs.Matrix.{matrix, Turned}
use Rattle.hq_rows.proofs.Crossing.{tables_next}
use Rattle.hq_rows.proofs.Pushed.{matrix_is}
use Rattle.hq_rows.proofs.columns.all_turned.Goals as goal

pub loop-k-preserved : goal.loop-k-preserved
loop-k-preserved c =
    let e = c.in_ok-push.ensures.items in
    let low = c.loop-k.invariant.last in
    let rows = matrix_is c.args.rounds.now c.loop-k.k c.index-rounds-k.result (omega (arith, low, c.loop-k-test.true)) c.index-rounds-k.is ∙ sym c.deref.ensures.value in
    record {
      last = low;
      len = ap length e ∙ length-append c.loop-k.tables.items (c.in_ok-turned.field-0 ∷ []) ∙ ap (λ n. n + 1) c.loop-k.invariant.len;
      each = tables_next c.args.rounds.now c.loop-k.tables.items c.push.new.self.items c.in_ok-turned.field-0 (matrix c.args.rounds.now c.loop-k.k) c.loop-k.k c.loop-k.invariant.len e refl c.loop-k.invariant.each
          (subst (λ rs. Turned rs c.in_ok-turned.field-0.items) (sym rows) c.in_ok-turned.ensures);
    }

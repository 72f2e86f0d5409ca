use Rattle.std.proofs.Common.{◌≡◌, ◌+◌, ◌<◌, ◌∷◌, [], arith, ap, sym, subst, ◌∙◌, length, length-append, slice_index_or}
use Rattle.hq_rows.specs.Matrix.{row}
use Rattle.hq_rows.proofs.Rows.{row_is}
use Rattle.hq_order.specs.Wide.{Each, IsCopy}
use Rattle.hq_order.proofs.Stepping.{each_push}
use Rattle.hq_order.proofs.wide.copied.Goals as goal

pub loop-row-preserved : goal.loop-row-preserved
loop-row-preserved c =
    let rows = c.args.rows.now in
    let copies = c.loop-row.copies.items in
    let copy = c.in_ok-to_vec.field-0 in
    let e = c.in_ok-push.ensures.items in
    let is : copy.items ≡ c.row-item.result.items = c.in_ok-to_vec.ensures.items_if_clones_equal (λ y e h. h) ∙ c.deref.ensures.value in
    let low : length copies < length rows = omega (arith, c.loop-row.invariant.len, c.loop-row-test.true) in
    let there : c.row-item.result.items ≡ row rows (length copies) = sym (row_is rows (length copies) c.row-item.result low (subst (λ k. c.row-item.result ≡ slice_index_or rows k c.row-item.result) (sym c.loop-row.invariant.len) c.row-item.is)) in
    let same : length copies ≡ 0 + length copies = omega arith in
    let at : IsCopy rows (0 + length copies) copy.items = subst (λ k. IsCopy rows k copy.items) same (is ∙ there) in
    record {
      copies = subst (Each (IsCopy rows) 0) (sym e) (each_push (IsCopy rows) 0 copies copy c.loop-row.invariant.copies at);
      len = ap length e ∙ length-append copies (copy ∷ []) ∙ ap (λ n. n + 1) c.loop-row.invariant.len;
    }

use Rattle.std.proofs.Common.{◌+◌, ◌∷◌, [], ap, sym, subst, ◌∙◌, length, length-append}
use Rattle.hq_order.specs.Wide.{AreBare}
use Rattle.hq_order.proofs.Stepping.{bare_push}
use Rattle.hq_order.proofs.wide.bare_tables.Goals as goal

pub loop-table-preserved : goal.loop-table-preserved
loop-table-preserved c =
    let tables = c.loop-table.tables.items in
    let e = c.in_ok-push.ensures.items in
    record {
      bare = subst AreBare (sym e) (bare_push tables c.in_ok-bare_table.field-0 c.loop-table.invariant.bare c.in_ok-bare_table.ensures);
      len = ap length e ∙ length-append tables (c.in_ok-bare_table.field-0 ∷ []) ∙ ap (λ n. n + 1) c.loop-table.invariant.len;
    }

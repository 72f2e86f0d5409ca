use Rattle.std.proofs.Common.{◌≡◌, ◌∙◌, ◌↔◌, IsTrue, ap, sym, subst, length}
use Rattle.hq_bits.specs.Bits.{has}
use Rattle.hq_rows.proofs.Lists.{lent}
use Rattle.hq_graph.specs.Order.{IsStep}
use Rattle.hq_graph.proofs.Betweens.{steps_are}
use Rattle.hq_graph.proofs.rows.step_row.Goals as goal

pub returns-clause-exact : goal.returns-clause-exact
returns-clause-exact c =
    let copy : c.in_ok-row.row.items ≡ c.ahead.result.now = c.in_ok-row.ensures.items_if_clones_equal (λ y e h. h) in
    let old : c.deref_mut.result.now ≡ c.ahead.result.now = c.deref_mut.ensures.value ∙ copy in
    let same : length c.leave_last.new.row ≡ length c.in_ok-row.row.items = c.leave_last.auto.row ∙ ap length c.deref_mut.ensures.value in
    λ p. subst (λ row. IsTrue (has row p) ↔ IsStep c.args.before.now p c.args.r) (sym (lent c.in_ok-row.row.len c.leave_last.new.row c.in_ok-row.row.items c.in_ok-row.row.ok.0 same))
    (steps_are c.args.before.now c.ahead.result.now c.leave_last.new.row c.args.r c.ahead.ensures.has (rw old at c.leave_last.ensures) p)

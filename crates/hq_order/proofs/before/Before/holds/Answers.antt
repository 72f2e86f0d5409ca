use Rattle.std.proofs.Common.{◌≡◌, ◌↔◌, sym, ◌∙◌, subst, IsTrue}
use Rattle.hq_model.specs.Order as order
use Rattle.hq_rows.specs.Matrix.{Marks}
use Rattle.hq_order.specs.View.{order_of}
use Rattle.hq_rows.proofs.Pushed.{last_is}
use Rattle.hq_order.proofs.Closure.{last_exact}
use Rattle.hq_order.proofs.before.Before.holds.Goals as goal

pub returns : goal.returns
returns c =
    let rounds = c.self.inside.found.rounds.items in
    let is = last_is rounds c.len.result c.index-last.result.now c.self.invariant.rounds.some (c.len.ensures ∙ c.self.inside.found.rounds.ok.0) c.index-last.ensures in
    let exact = last_exact (order_of c.self.inside) rounds c.self.invariant.rounds c.self.invariant.closed c.args.p c.args.r in
    let view : order_of c.self.inside ≡ c.args.self.now = cc c.self.view_is in
    let marks = subst (λ rows. IsTrue c.marks.result ↔ Marks rows c.args.p c.args.r) (c.deref.ensures.value ∙ sym is) c.marks.ensures in
    subst (λ job. IsTrue c.marks.result ↔ order.Before job c.args.p c.args.r) view (λ t. exact.0 (marks.0 t), λ b. marks.1 (exact.1 b))

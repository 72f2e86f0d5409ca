use Rattle.std.proofs.Common.{◌≡◌, ◌-◌, ◌<◌, ◌↔◌, length, sym, ◌∙◌, ap, subst, arith, IsTrue}
use Rattle.hq_model.specs.Job.{Job}
use Rattle.hq_model.specs.Order as order
use Rattle.hq_bits.specs.Bits.{has}
use Rattle.hq_rows.specs.Matrix.{row, last, words_for}
use Rattle.hq_order.specs.View.{order_of}
use Rattle.hq_rows.proofs.Pushed.{last_is}
use Rattle.hq_order.proofs.Closure.{last_exact}
use Rattle.hq_order.proofs.before.Before.ahead.Goals as goal

pub returns-clause-has : goal.returns-clause-has
returns-clause-has c = λ p.
    let rounds = c.self.inside.found.rounds.items in
    let is = last_is rounds c.len.result c.index.result.now c.self.invariant.rounds.some (c.len.ensures ∙ c.self.inside.found.rounds.ok.0) c.index.ensures in
    let exact = last_exact (order_of c.self.inside) rounds c.self.invariant.rounds c.self.invariant.closed p c.args.r in
    let view : order_of c.self.inside ≡ c.args.self.now = cc c.self.view_is in
    let rows = c.deref.ensures.value ∙ sym is in
    let same : c.row_of.result.now ≡ row (last rounds) c.args.r = c.row_of.ensures ∙ ap (λ rs. row rs c.args.r) rows in
    subst (λ job. IsTrue (has c.row_of.result.now p) ↔ order.Before job p c.args.r) view
    (subst (λ words. IsTrue (has words p) ↔ order.Before (order_of c.self.inside) p c.args.r) (sym same) exact)

pub returns-clause-len : goal.returns-clause-len
returns-clause-len c =
    let rounds = c.self.inside.found.rounds.items in
    let is = last_is rounds c.len.result c.index.result.now c.self.invariant.rounds.some (c.len.ensures ∙ c.self.inside.found.rounds.ok.0) c.index.ensures in
    let view : order_of c.self.inside ≡ c.args.self.now = cc c.self.view_is in
    let some = c.self.invariant.rounds.some in
    let low : c.args.r < length (order_of c.self.inside).packets = subst (λ (job : Job). c.args.r < length job.packets) (sym view) c.requires in
    let rows = c.deref.ensures.value ∙ sym is in
    let same : c.row_of.result.now ≡ row (last rounds) c.args.r = c.row_of.ensures ∙ ap (λ rs. row rs c.args.r) rows in
    subst (λ (job : Job). length c.row_of.result.now ≡ words_for (length job.packets)) view (ap length same ∙ (c.self.invariant.rounds.square (length rounds - 1) (omega arith)).width c.args.r low)

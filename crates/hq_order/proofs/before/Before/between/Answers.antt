use Rattle.std.proofs.Common.{◌≡◌, ◌-◌, ◌<◌, ◌≤◌, ℕ, length, sym, ◌∙◌, subst, arith, IfSome}
use Rattle.std.specs.Prelude.{MatchOption}
use Rattle.hq_model.specs.Job.{Job}
use Rattle.hq_rows.specs.Matrix.{Marks, Turned, matrix, IsMarkedBetween}
use Rattle.hq_order.specs.Rounds.{Between}
use Rattle.hq_order.specs.View.{order_of}
use Rattle.hq_rows.proofs.Pushed.{matrix_is}
use Rattle.hq_rows.proofs.Rows.{row_is}
use Rattle.hq_order.proofs.Single.{count}
use Rattle.hq_order.proofs.Middles.{few_rows, found_between, found_low}
use Rattle.hq_order.proofs.before.Before.between.Goals as goal

pub between-requires-clause-turned : goal.between-requires-clause-turned
between-requires-clause-turned c =
    let k = c.args.round - 1 in
    let here : k < length c.self.inside.found.rounds.items = omega (arith, c.self.inside.found.rounds.ok.0, c.len.ensures, c.if-round-len.false) in
    let there : k < length c.self.inside.found.columns.items = omega (arith, c.self.invariant.turned.len, c.self.inside.found.rounds.ok.0, c.len.ensures, c.if-round-len.false, c.if-round-eq0.false) in
    let rows = matrix_is c.self.inside.found.rounds.items k c.index.result.now here c.index.ensures ∙ sym c.deref.ensures.value in
    let table = row_is c.self.inside.found.columns.items k c.index-2.result.now there c.index-2.ensures ∙ sym c.deref-2.ensures.value in
    subst (λ rs. Turned rs c.deref-2.result.now) rows (subst (λ t. Turned (matrix c.self.inside.found.rounds.items k) t) table (c.self.invariant.turned.each k there))

pub between-requires-clause-few : goal.between-requires-clause-few
between-requires-clause-few c =
    let k = c.args.round - 1 in
    let here : k < length c.self.inside.found.rounds.items = omega (arith, c.self.inside.found.rounds.ok.0, c.len.ensures, c.if-round-len.false) in
    let rows = matrix_is c.self.inside.found.rounds.items k c.index.result.now here c.index.ensures ∙ sym c.deref.ensures.value in
    let few : length (order_of c.self.inside).packets ≤ 1024 = omega (arith, c.valid.ensures.limits.packets, count c.self.inside.job.now) in
    subst (λ rs. length rs ≤ 1024) rows (few_rows (order_of c.self.inside) c.self.inside.found.rounds.items k c.self.invariant.rounds few here)

pub returns-clause-few : goal.returns-clause-few
returns-clause-few c =
    let view : order_of c.self.inside ≡ c.args.self.now = cc c.self.view_is in
    let rounds = c.self.inside.found.rounds.items in
    let k = c.args.round - 1 in
    let here : k < length rounds = omega (arith, c.self.inside.found.rounds.ok.0, c.len.ensures, c.if-round-len.false) in
    let rows = matrix_is rounds k c.index.result.now here c.index.ensures ∙ sym c.deref.ensures.value in
    let found = subst (λ rs. MatchOption c.between.result ((m : ℕ) → Marks rs c.args.p m → Marks rs m c.args.r → ⊥) (IsMarkedBetween rs c.args.p c.args.r)) (sym rows) c.between.ensures in
    subst (λ (job : Job). IfSome c.between.result (λ m. m < length job.packets)) view
    (found_low (order_of c.self.inside) rounds k c.args.p c.args.r c.between.result c.self.invariant.rounds here found)

pub returns-clause-between : goal.returns-clause-between
returns-clause-between c =
    let view : order_of c.self.inside ≡ c.args.self.now = cc c.self.view_is in
    let rounds = c.self.inside.found.rounds.items in
    let k = c.args.round - 1 in
    let low : c.args.round < length rounds = omega (arith, c.self.inside.found.rounds.ok.0, c.len.ensures, c.if-round-len.false) in
    let here : k < length rounds = omega arith in
    let rows = matrix_is rounds k c.index.result.now here c.index.ensures ∙ sym c.deref.ensures.value in
    let found = subst (λ rs. MatchOption c.between.result ((m : ℕ) → Marks rs c.args.p m → Marks rs m c.args.r → ⊥) (IsMarkedBetween rs c.args.p c.args.r)) (sym rows) c.between.ensures in
    subst (λ job. IfSome c.between.result (Between job c.args.round c.args.p c.args.r)) view
    (found_between (order_of c.self.inside) rounds c.args.round c.args.p c.args.r c.between.result c.self.invariant.rounds (omega (arith, c.if-round-eq0.false)) low found)

use Rattle.std.proofs.Common.{◌≡◌, sym, subst, inl, inr, None}
use Rattle.std.specs.Prelude.{MatchOption}
use Rattle.hq_model.specs.Order as order
use Rattle.hq_rows.specs.Matrix.{IsMarkedNowhere, IsMarkedFirst, AreTurned}
use Rattle.hq_order.specs.Rounds.{IsFirstWithin}
use Rattle.hq_order.specs.View.{order_of}
use Rattle.hq_order.proofs.Closure.{round_exact}
use Rattle.hq_order.proofs.Middles.{wide_nowhere}
use Rattle.hq_order.proofs.before.Before.round.Goals as goal

pub first_turned-requires-clause-turned : goal.first_turned-requires-clause-turned
first_turned-requires-clause-turned c =
    subst (λ (rounds : _). AreTurned rounds c.deref-2.result.now) (sym c.deref.ensures.value)
    (subst (AreTurned c.self.inside.found.rounds.items) (sym c.deref-2.ensures.value) c.self.invariant.turned)

pub returns-then-p-ge-WIDTH : goal.returns-then-p-ge-WIDTH
returns-then-p-ge-WIDTH c =
    let view : order_of c.self.inside ≡ c.args.self.now = cc c.self.view_is in
    let none = round_exact (order_of c.self.inside) c.self.inside.found.rounds.items c.args.p c.args.r None c.self.invariant.rounds c.self.invariant.closed (wide_nowhere (order_of c.self.inside) c.self.inside.found.rounds.items c.args.p c.args.r c.self.invariant.rounds (inl c.if-p-ge-WIDTH.true)) in
    λ b. none (subst (λ job. order.Before job c.args.p c.args.r) (sym view) b)

pub returns-then-r-ge-WIDTH : goal.returns-then-r-ge-WIDTH
returns-then-r-ge-WIDTH c =
    let view : order_of c.self.inside ≡ c.args.self.now = cc c.self.view_is in
    let none = round_exact (order_of c.self.inside) c.self.inside.found.rounds.items c.args.p c.args.r None c.self.invariant.rounds c.self.invariant.closed (wide_nowhere (order_of c.self.inside) c.self.inside.found.rounds.items c.args.p c.args.r c.self.invariant.rounds (inr c.if-r-ge-WIDTH.true)) in
    λ b. none (subst (λ job. order.Before job c.args.p c.args.r) (sym view) b)

pub returns : goal.returns
returns c =
    let view : order_of c.self.inside ≡ c.args.self.now = cc c.self.view_is in
    let found = subst (λ (rounds : _). MatchOption c.first_turned.result (IsMarkedNowhere rounds c.args.p c.args.r) (λ k. IsMarkedFirst rounds c.args.p c.args.r k)) c.deref.ensures.value c.first_turned.ensures in
    subst (λ job. MatchOption c.first_turned.result (order.Before job c.args.p c.args.r → ⊥) (λ k. IsFirstWithin job k c.args.p c.args.r)) view (round_exact (order_of c.self.inside) c.self.inside.found.rounds.items c.args.p c.args.r c.first_turned.result c.self.invariant.rounds c.self.invariant.closed found)

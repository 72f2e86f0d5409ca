use Rattle.std.proofs.Common.{◌≡◌, ◌+◌, ◌-◌, ◌*◌, ◌/◌, ap, arith, subst}
use Rattle.hq_rows.specs.Turning.{digit}
use Rattle.hq_rows.proofs.Exchanging.{ExchangedUpto, exchanged_beyond, exchanged_more, next_group}
use Rattle.hq_rows.proofs.turning.exchange.Goals as goal

pub exchange_at-requires-clause-is_lower : goal.exchange_at-requires-clause-is_lower
exchange_at-requires-clause-is_lower c =
    let first = c.loop-group.group * 2 * c.args.step in
    let i = c.loop-k.k - first in
    let whole : first + i ≡ c.loop-k.k = omega (arith, c.loop-k.auto.k) in
    subst (λ k. digit c.args.step k ≡ 0) whole (c.requires.low c.loop-group.group i c.loop-group-test.true (omega (arith, whole, c.loop-k-test.true))).1

pub loop-k-preserved : goal.loop-k-preserved
loop-k-preserved c =
    let first = c.loop-group.group * 2 * c.args.step in
    let i = c.loop-k.k - first in
    let whole : first + i ≡ c.loop-k.k = omega (arith, c.loop-k.auto.k) in
    let low = c.requires.low c.loop-group.group i c.loop-group-test.true (omega (arith, whole, c.loop-k-test.true)) in
    exchanged_more c.args.step c.args.mask c.loop-k.k c.args.block.now c.loop-k.block c.exchange_at.new.block c.requires (omega (arith, whole, low.0)) (subst (λ k. digit c.args.step k ≡ 0) whole low.1) c.loop-k.invariant c.exchange_at.ensures

pub loop-group-preserved : goal.loop-group-preserved
loop-group-preserved c =
    let first = c.loop-group.group * 2 * c.args.step in
    let step = c.args.step in
    let end : c.loop-k.k ≡ first + step = omega (arith, c.loop-k.auto.k-end, c.loop-k-test.false) in
    let so_far : ExchangedUpto step (first + step) c.args.block.now c.loop-k.block = subst (λ k. ExchangedUpto step k c.args.block.now c.loop-k.block) end c.loop-k.invariant in
    subst (λ k. ExchangedUpto step k c.args.block.now c.loop-k.block) (next_group c.loop-group.group step)
    (exchanged_beyond step c.args.mask (first + step) step c.args.block.now c.loop-k.block c.requires (λ i l. c.requires.high c.loop-group.group i c.loop-group-test.true l) so_far)

pub returns : goal.returns
returns c = λ i j l m.
    let all : c.loop-group.group ≡ 32 / c.args.step = omega (arith, c.loop-group.auto.group-end, c.loop-group-test.false) in
    let end : c.loop-group.group * 2 * c.args.step ≡ 32 / c.args.step * 2 * c.args.step = ap (λ g. g * 2 * c.args.step) all in
    c.loop-group.invariant.done i j l m (omega (arith, l, end, c.requires.all))

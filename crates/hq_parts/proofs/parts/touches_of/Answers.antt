use Rattle.std.proofs.Common.{◌≡◌, ◌+◌, ◌<◌, length, sym, ap, subst, arith, take, slice_index_or}
use Rattle.hq_parts.proofs.Parting.{AreOf, of_push, of_all}
use Rattle.hq_parts.proofs.parts.touches_of.Goals as goal

pub loop-packet-preserved : goal.loop-packet-preserved
loop-packet-preserved c =
    let items = c.packets-packet-items.ensures in
    let low : c.loop-packet.packet-index < length c.args.job.now.packets = omega (arith, ap length items, c.loop-packet-test.true) in
    let is = subst (λ xs. c.packet-item.result ≡ slice_index_or xs c.loop-packet.packet-index c.packet-item.result) items c.packet-item.is in
    subst (λ ts. AreOf c.args.size ts (take (c.loop-packet.packet-index + 1) c.args.job.now.packets)) (sym c.in_ok-push.ensures.items)
    (of_push c.args.size c.loop-packet.touches.items c.args.job.now.packets c.loop-packet.packet-index c.touch_of.result c.packet-item.result c.loop-packet.invariant low is c.touch_of.ensures)

pub returns : goal.returns
returns c = of_all c.args.size c.args.job.now c.loop-packet.touches.items c.loop-packet.packet-index (omega (arith, ap length c.packets-packet-items.ensures, c.loop-packet-test.false)) c.loop-packet.invariant

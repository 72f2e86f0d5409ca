use Rattle.hq_showing.proofs.Shows.{packets_next}
use Rattle.hq_showing.proofs.show.show_packets.Goals as goal

pub loop-number-preserved : goal.loop-number-preserved
loop-number-preserved g c =
    packets_next _ _ _ c.args.queues.now c.args.packets.now c.loop-number.number _ c.loop-number.invariant c.loop-number-test.true c.index-packets-number.is c.in_ok-show_packet.ensures

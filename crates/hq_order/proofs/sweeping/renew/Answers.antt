use Rattle.std.proofs.Common.{length, arith}
use Rattle.hq_order.proofs.Swept.{square_set}
use Rattle.hq_order.proofs.sweeping.renew.Goals.{then-r-len+in_ok-row, else-r-len}
use Rattle.hq_order.proofs.sweeping.renew.Goals as goal

pub loop-packet-preserved : goal.loop-packet-preserved
loop-packet-preserved c = elim c.if-r-len.branch [
  | then-r-len+in_ok-row w ↦ rw w.rows-is (square_set (length c.args.job.now.packets) c.loop-packet.rows.items _ w.in_ok-row.row c.loop-packet.invariant (omega (arith, w.if-r-len.true, c.len.ensures)) w.in_ok-row.ensures.len)
  | else-r-len w ↦ rw w.rows-is c.loop-packet.invariant
]

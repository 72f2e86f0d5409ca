use Rattle.std.proofs.Common.{arith}
use Rattle.hq_job.specs.Plan.{plan}
use Rattle.hq_ordercheck.proofs.Orders.{queue_kept}
use Rattle.hq_ordercheck.proofs.Packets.{packets_count}
use Rattle.hq_ordercheck.proofs.order.keeps_queue.Goals as goal

pub rise-requires : goal.rise-requires
rise-requires c = λ p low high. omega (arith, (c.of_queue.ensures.of_queue p low high).0, packets_count c.args.job.now, c.requires.count)

pub returns : goal.returns
returns c =
    let kept = queue_kept (plan c.args.job.now) c.args.places.now c.args.queue c.of_queue.result.start c.of_queue.result.end c.of_queue.ensures in
    (λ t. kept.0 (c.rise.ensures.0 t), λ h. c.rise.ensures.1 (kept.1 h))

use Rattle.std.proofs.Common.{◌<◌, ◌≤◌, arith, length}
use Rattle.hq_job.proofs.Counted.{all_here, counted_few}
use Rattle.hq_job.proofs.numbering.counts_of.Goals as goal

pub overflow_add-index_mut : goal.overflow_add-index_mut
overflow_add-index_mut c =
    let low : c.packet-item.result.queue < c.args.queues = all_here (λ p. p.queue < c.args.queues) c.args.placed.now c.loop-packet.packet-index c.packet-item.result c.requires.below c.loop-packet-test.true c.packet-item.is in
    let few : c.index_mut.result.now ≤ length c.args.placed.now = counted_few (λ p. p.queue) c.args.queues c.args.placed.now c.loop-packet.packet-index c.loop-packet.counts.items c.packet-item.result.queue c.index_mut.result.now c.loop-packet.invariant low c.index_mut.ensures.value in
    omega (arith, c.requires.few)

use Rattle.std.proofs.Common.{rules, ◌≡◌, ◌<◌, ◌++◌, [], ◌∷◌, map, length, sym, ◌∙◌, ap, arith}
use Rattle.hq_job.specs.Numbering.{by_number, number_of}
use Rattle.hq_model.specs.Journal.{numbers}
use Rattle.hq_job.proofs.Counted.{counted_none, counted_number, counted_more, number_few, all_here}
use Rattle.hq_job.proofs.Grouped.{map_numbers_next}
use Rattle.hq_job.proofs.numbering.submissions.Goals as goal

pub loop-packet-init : goal.loop-packet-init
loop-packet-init c = record { counted = counted_none (λ p. p.queue) _ c.args.placed.now _ c.requires.firsts; numbers = search rules }

pub overflow_cast-index : goal.overflow_cast-index
overflow_cast-index c =
    let low : c.packet-item.result.queue < c.args.queues = all_here (λ p. p.queue < c.args.queues) c.args.placed.now c.loop-packet.packet-index c.packet-item.result c.requires.below c.loop-packet-test.true c.packet-item.is in
    let few : number_of (λ p. p.queue) c.args.placed.now c.loop-packet.packet-index < length c.args.placed.now = number_few (λ p. p.queue) c.args.queues c.args.placed.now c.loop-packet.packet-index c.packet-item.result c.loop-packet-test.true c.packet-item.is low in
    let is : c.index.result.now ≡ number_of (λ p. p.queue) c.args.placed.now c.loop-packet.packet-index = counted_number (λ p. p.queue) c.args.queues c.args.placed.now c.loop-packet.packet-index c.loop-packet.next.items c.packet-item.result c.index.result.now c.loop-packet.invariant.counted c.loop-packet-test.true c.packet-item.is low c.index.ensures in
    omega (arith, c.requires.few)

pub overflow_add-index_mut : goal.overflow_add-index_mut
overflow_add-index_mut c =
    let low : c.packet-item.result.queue < c.args.queues = all_here (λ p. p.queue < c.args.queues) c.args.placed.now c.loop-packet.packet-index c.packet-item.result c.requires.below c.loop-packet-test.true c.packet-item.is in
    let few : number_of (λ p. p.queue) c.args.placed.now c.loop-packet.packet-index < length c.args.placed.now = number_few (λ p. p.queue) c.args.queues c.args.placed.now c.loop-packet.packet-index c.packet-item.result c.loop-packet-test.true c.packet-item.is low in
    let is : c.index_mut.result.now ≡ number_of (λ p. p.queue) c.args.placed.now c.loop-packet.packet-index = counted_number (λ p. p.queue) c.args.queues c.args.placed.now c.loop-packet.packet-index c.loop-packet.next.items c.packet-item.result c.index_mut.result.now c.loop-packet.invariant.counted c.loop-packet-test.true c.packet-item.is low c.index_mut.ensures.value in
    omega (arith, c.requires.few)

pub loop-packet-preserved : goal.loop-packet-preserved
loop-packet-preserved c =
    let low : c.packet-item.result.queue < c.args.queues = all_here (λ p. p.queue < c.args.queues) c.args.placed.now c.loop-packet.packet-index c.packet-item.result c.requires.below c.loop-packet-test.true c.packet-item.is in
    let is : c.index.result.now ≡ number_of (λ p. p.queue) c.args.placed.now c.loop-packet.packet-index = counted_number (λ p. p.queue) c.args.queues c.args.placed.now c.loop-packet.packet-index c.loop-packet.next.items c.packet-item.result c.index.result.now c.loop-packet.invariant.counted c.loop-packet-test.true c.packet-item.is low c.index.ensures in
    record {
      counted = counted_more (λ q. length (by_number q c.args.placed.now)) (λ p. p.queue) c.args.queues c.args.placed.now c.loop-packet.packet-index c.loop-packet.next.items c.packet-item.result c.index_mut.result.now c.loop-packet.invariant.counted c.loop-packet-test.true c.packet-item.is low c.index_mut.ensures.value;
      numbers = c.in_ok-push.ensures.items ∙ ap (λ ys. ys ++ c.index.result.now ∷ []) c.loop-packet.invariant.numbers ∙ ap (λ v. map (number_of (λ p. p.queue) c.args.placed.now) (numbers c.loop-packet.packet-index) ++ v ∷ []) is ∙ sym (map_numbers_next (number_of (λ p. p.queue) c.args.placed.now) c.loop-packet.packet-index);
    }

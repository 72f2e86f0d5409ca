use Rattle.std.proofs.Common.{◌≡◌, ◌<◌, length, subst, slice_index_or}
use Rattle.hq_certcheck.proofs.Counting.{is_short}
use Rattle.hq_certcheck.proofs.steps.steps.Goals as goal

pub steps_of-steps-requires-clause-short : goal.steps_of-steps-requires-clause-short
steps_of-steps-requires-clause-short c =
    is_short c.args.job.now c.loop-packet.packet-index c.packet-item.result c.valid.ensures.limits c.valid.ensures.packets c.valid.ensures.valid
    (subst (λ xs. c.loop-packet.packet-index < length xs) c.packets-packet-items.ensures c.loop-packet-test.true)
    (subst (λ xs. c.packet-item.result ≡ slice_index_or xs c.loop-packet.packet-index c.packet-item.result) c.packets-packet-items.ensures c.packet-item.is)

use Rattle.std.proofs.Common.{◌≡◌, sym, ◌∙◌, ap, add-one, slice_set, slice_index_or}
use Rattle.hq_job.proofs.GivenHeads.{some_with, one_more_with, all_have}
use Rattle.hq_job.proofs.heads.set_each_head.Goals as goal

pub loop-packet-preserved : goal.loop-packet-preserved
loop-packet-preserved c =
    let i = c.loop-packet.packet-index in
    let xs = c.args.packets.now in
    let head = c.args.head in
    let x = slice_index_or c.loop-packet.packets i c.packet-item.result in
    let at : x ≡ slice_index_or (some_with head i xs) i c.packet-item.result = ap (λ ys. slice_index_or ys i c.packet-item.result) c.loop-packet.invariant in
    ap (λ ys. slice_set ys i c.with_head.result) c.loop-packet.invariant ∙ ap (slice_set (some_with head i xs) i) c.with_head.ensures
    ∙ one_more_with xs i x c.packet-item.result head c.loop-packet-test.true at ∙ ap (λ n. some_with head n xs) (sym (add-one i))

pub returns : goal.returns
returns c = c.loop-packet.invariant ∙ all_have c.args.packets.now c.loop-packet.packet-index c.args.head c.loop-packet-test.false

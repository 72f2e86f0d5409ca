use Rattle.std.proofs.Common.{◌≡◌, ◌+◌, ◌<◌, length, slice_index, ap, sym, ◌∙◌, subst, arith}
use Rattle.std.proofs.lemmas.List.Concat.{length-flat_map}
use Rattle.hq_footprint.proofs.RangeBytes.{bytes_placed, bytes_counted}
use Rattle.hq_job.specs.Plan.{plan}
use Rattle.hq_tables.specs.Blocks.{Bytes}
use Rattle.hq_model.specs.Job.{Packet, packet}
use Rattle.hq_events.proofs.packets.write_at.Goals as goal

pub overflow_add-result : goal.overflow_add-result
overflow_add-result c =
    let v = c.args.job.now in
    let range = c.packet.result.now.bytes.write in
    let few = c.requires.entry in
    let same = ap (λ (x : Packet). x.writes) c.packet.ensures in
    let count = bytes_counted range in
    let lengths = ap length same in
    let here : slice_index (packet (plan v) c.args.number).writes c.args.entry ≡ range.at + c.args.entry = subst (λ xs. slice_index xs c.args.entry ≡ range.at + c.args.entry) same (bytes_placed range c.args.entry 0 (omega arith)) in
    let low = c.valid.ensures.valid.writes c.args.number c.args.entry 0 few in
    let limit = c.valid.ensures.limits.bytes in
    let memory = length-flat_map (λ (b : Bytes). b.bytes) v.buffers in
    omega arith

pub returns-clause-at : goal.returns-clause-at
returns-clause-at c =
    let range = c.packet.result.now.bytes.write in
    let few = c.requires.entry in
    let same = ap (λ (x : Packet). x.writes) c.packet.ensures in
    let count = bytes_counted range in
    let lengths = ap length same in
    sym (bytes_placed range c.args.entry 0 (omega arith)) ∙ ap (λ xs. slice_index xs c.args.entry) same

pub returns-clause-within : goal.returns-clause-within
returns-clause-within c =
    let v = c.args.job.now in
    let range = c.packet.result.now.bytes.write in
    let few = c.requires.entry in
    let same = ap (λ (x : Packet). x.writes) c.packet.ensures in
    let count = bytes_counted range in
    let lengths = ap length same in
    let here : slice_index (packet (plan v) c.args.number).writes c.args.entry ≡ range.at + c.args.entry = subst (λ xs. slice_index xs c.args.entry ≡ range.at + c.args.entry) same (bytes_placed range c.args.entry 0 (omega arith)) in
    subst (λ b. b < length (plan v).memory) here (c.valid.ensures.valid.writes c.args.number c.args.entry 0 few)

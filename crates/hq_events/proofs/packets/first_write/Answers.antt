use Rattle.std.proofs.Common.{◌≡◌, ◌+◌, ◌-◌, ◌<◌, ℕ, length, slice_index, ap, sym, ◌∙◌, subst, arith}
use Rattle.hq_footprint.proofs.RangeBytes.{bytes_placed, bytes_counted}
use Rattle.hq_job.specs.Plan.{plan}
use Rattle.hq_model.specs.Job.{Packet, packet}
use Rattle.hq_events.proofs.packets.first_write.Goals as goal

pub returns-clause-at : goal.returns-clause-at
returns-clause-at c entry few =
    let range = c.packet.result.now.bytes.write in
    let same = ap (λ (x : Packet). x.writes) c.packet.ensures in
    let count = bytes_counted range in
    let lengths = ap length same in
    sym (ap (λ xs. slice_index xs entry) same) ∙ bytes_placed range entry 0 (omega arith)

pub returns-clause-within : goal.returns-clause-within
returns-clause-within c =
    let v = c.args.job.now in
    let range = c.packet.result.now.bytes.write in
    let same = ap (λ (x : Packet). x.writes) c.packet.ensures in
    let count = bytes_counted range in
    let lengths = ap length same in
    let total : ℕ = length (packet (plan v) c.args.number).writes in
    let last : total - 1 < total = omega (arith, c.requires.some) in
    let here : slice_index (packet (plan v) c.args.number).writes (total - 1) ≡ range.at + (total - 1) = subst (λ xs. slice_index xs (total - 1) ≡ range.at + (total - 1)) same (bytes_placed range (total - 1) 0 (omega arith)) in
    let low = c.valid.ensures.valid.writes c.args.number (total - 1) 0 last in
    omega (arith, here, low, c.requires.some)

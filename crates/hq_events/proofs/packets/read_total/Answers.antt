use Rattle.std.proofs.Common.{◌<◌, All, sym, subst, arith}
use Rattle.std.proofs.lemmas.List.{length-map}
use Rattle.hq_job.specs.Plan.{planned}
use Rattle.hq_tables.specs.Tables.{total_of}
use Rattle.hq_model.specs.Job.{Packet}
use Rattle.hq_events.proofs.Jobs.{ranges_few, reads_within}
use Rattle.hq_events.proofs.packets.read_total.Goals as goal

pub overflow_add-result : goal.overflow_add-result
overflow_add-result c =
    let v = c.args.job.now in
    let there = c.requires in
    let count = length-map v.packets planned in
    let limit = c.valid.ensures.limits.bytes in
    let all = subst (λ (x : Packet). All (λ b. b < total_of v.buffers) x.reads) (sym c.packet.ensures) (reads_within v c.args.number c.packet.result.now c.valid.ensures.packets (omega arith)) in
    let first = ranges_few c.packet.result.now.bytes.reads (total_of v.buffers) all 0 (record { at = 0; len = 0 }) in
    let second = ranges_few c.packet.result.now.bytes.reads (total_of v.buffers) all 1 (record { at = 0; len = 0 }) in
    omega arith

pub overflow_cast-result : goal.overflow_cast-result
overflow_cast-result c =
    let v = c.args.job.now in
    let there = c.requires in
    let count = length-map v.packets planned in
    let limit = c.valid.ensures.limits.bytes in
    let all = subst (λ (x : Packet). All (λ b. b < total_of v.buffers) x.reads) (sym c.packet.ensures) (reads_within v c.args.number c.packet.result.now c.valid.ensures.packets (omega arith)) in
    let first = ranges_few c.packet.result.now.bytes.reads (total_of v.buffers) all 0 (record { at = 0; len = 0 }) in
    let second = ranges_few c.packet.result.now.bytes.reads (total_of v.buffers) all 1 (record { at = 0; len = 0 }) in
    omega arith

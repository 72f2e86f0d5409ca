use Rattle.std.proofs.Common.{◌<◌, All, length, sym, subst, arith}
use Rattle.std.proofs.lemmas.List.Concat.{length-flat_map}
use Rattle.hq_job.specs.Plan.{plan}
use Rattle.hq_tables.specs.Blocks.{Bytes}
use Rattle.hq_model.specs.Job.{Packet}
use Rattle.hq_events.proofs.Jobs.{write_few}
use Rattle.hq_events.proofs.packets.write_total.Goals as goal

pub overflow_cast-result : goal.overflow_cast-result
overflow_cast-result c =
    let v = c.args.job.now in
    let limit = c.valid.ensures.limits.bytes in
    let all = subst (λ (x : Packet). All (λ b. b < length (plan v).memory) x.writes) (sym c.packet.ensures) (c.valid.ensures.valid.writes c.args.number) in
    let few = write_few c.packet.result.now.bytes.write (length (plan v).memory) all in
    let total = length-flat_map (λ (b : Bytes). b.bytes) v.buffers in
    omega arith

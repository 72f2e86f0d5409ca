use Rattle.std.proofs.Common.{◌<◌, All, length, ap, sym, subst, arith}
use Rattle.std.proofs.lemmas.List.{length-map}
use Rattle.std.proofs.lemmas.List.Concat.{length-flat_map}
use Rattle.hq_job.specs.Plan.{plan, planned}
use Rattle.hq_tables.specs.Tables.{total_of}
use Rattle.hq_tables.specs.Blocks.{Bytes}
use Rattle.hq_model.specs.Job.{Packet, packet}
use Rattle.hq_events.proofs.Jobs.{reads_within, entry_match}
use Rattle.hq_events.proofs.packets.read_at.Goals as goal

pub entry_of-requires : goal.entry_of-requires
entry_of-requires c =
    let v = c.args.job.now in
    let there = c.requires in
    let count = length-map v.packets planned in
    let limit = c.valid.ensures.limits.bytes in
    let all = subst (λ (x : Packet). All (λ b. b < total_of v.buffers) x.reads) (sym c.packet.ensures) (reads_within v c.args.number c.packet.result.now c.valid.ensures.packets (omega arith)) in
    λ k d l. let low = all k d l in omega arith

pub returns : goal.returns
returns c =
    let v = c.args.job.now in
    let there = c.requires in
    let count = length-map v.packets planned in
    let all : All (λ b. b < length (plan v).memory) (packet (plan v) c.args.number).reads =
    subst (λ n. All (λ b. b < n) (packet (plan v) c.args.number).reads) (sym (length-flat_map (λ (b : Bytes). b.bytes) v.buffers)) (reads_within v c.args.number c.packet.result.now c.valid.ensures.packets (omega arith)) in
    entry_match (plan v) c.args.number c.args.entry _ c.entry_of.result (ap (λ (x : Packet). x.reads) c.packet.ensures) all c.entry_of.ensures

use Rattle.std.proofs.Common.{◌≡◌, ◌<◌, All, IfOk, length, map, sym, subst, arith}
use Rattle.std.proofs.lemmas.List.{length-map}
use Rattle.std.proofs.lemmas.List.Concat.{length-flat_map}
use Rattle.hq_job.specs.Plan.{plan, planned}
use Rattle.hq_tables.specs.Blocks.{Bytes}
use Rattle.hq_model.specs.Job.{Packet, packet}
use Rattle.hq_model.specs.Machine.{lane_sees}
use Rattle.hq_machine.specs.View.{state_of}
use Rattle.hq_events.proofs.Jobs.{reads_within}
use Rattle.hq_machine.proofs.state.State.bytes_to_read.Goals as goal

pub bytes_of_ranges-requires-clause-ranges : goal.bytes_of_ranges-requires-clause-ranges
bytes_of_ranges-requires-clause-ranges c =
    let v = c.args.job.now in
    let there = c.requires.packet in
    let count = length-map v.packets planned in
    let all : All (λ b. b < length (plan v).memory) (packet (plan v) c.args.packet).reads =
    subst (λ n. All (λ b. b < n) (packet (plan v) c.args.packet).reads) (sym (length-flat_map (λ (b : Bytes). b.bytes) v.buffers)) (reads_within v c.args.packet c.packet.result.now c.valid.ensures.packets (omega arith)) in
    subst (λ (x : Packet). All (λ b. b < length c.args.self.now.copies.memory) x.reads) (sym c.packet.ensures) (subst (λ n. All (λ b. b < n) (packet (plan v) c.args.packet).reads) (sym c.requires.is.lengths.memory) all)

pub returns : goal.returns
returns c =
    let job = plan c.args.job.now in
    subst (λ (x : Packet). IfOk c.bytes_of_ranges.result (λ bytes. bytes.items ≡ map (lane_sees job (state_of job c.args.self.now) c.args.packet) x.reads)) c.packet.ensures (c.bytes_of_ranges.ensures job c.requires.is)

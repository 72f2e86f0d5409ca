use Rattle.std.proofs.Common.{length, ap, sym, subst, arith}
use Rattle.std.proofs.lemmas.List.{length-map}
use Rattle.hq_footprint.specs.Tasks.{Suits}
use Rattle.hq_job.specs.Plan.{plan, planned}
use Rattle.hq_model.specs.Job.{Packet, packet}
use Rattle.hq_events.proofs.Jobs.{suits}
use Rattle.hq_events.proofs.packets.task_of.Goals as goal

pub returns-clause-suits : goal.returns-clause-suits
returns-clause-suits c =
    let v = c.args.job.now in
    let there = c.requires in
    let count = length-map v.packets planned in
    subst (λ t. Suits t (length (packet (plan v) c.args.number).reads) (length (packet (plan v) c.args.number).writes)) (sym (ap (λ (x : Packet). x.task) c.packet.ensures)) (suits v c.args.number c.packet.result.now c.valid.ensures.packets (omega arith))

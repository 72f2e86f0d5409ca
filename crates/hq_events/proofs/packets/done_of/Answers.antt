use Rattle.std.proofs.Common.{◌<◌, IfSome, length, sym, subst, arith}
use Rattle.std.proofs.lemmas.List.{length-map}
use Rattle.hq_signals.specs.Table.{OpenSignal}
use Rattle.hq_job.specs.Plan.{planned}
use Rattle.hq_model.specs.Job.{Packet}
use Rattle.hq_events.proofs.Jobs.{done_within}
use Rattle.hq_events.proofs.packets.done_of.Goals as goal

pub returns-clause-there : goal.returns-clause-there
returns-clause-there c =
    let v = c.args.job.now in
    let there = c.requires in
    let count = length-map v.packets planned in
    let below = subst (λ (x : Packet). IfSome x.done (λ s. s < length v.signals)) (sym c.packet.ensures) (done_within v c.args.number c.packet.result.now c.valid.ensures.packets (omega arith)) in
    subst (λ n. IfSome c.packet.result.now.done (λ s. s < n)) (sym (length-map v.signals (λ (s : OpenSignal). s.start))) below

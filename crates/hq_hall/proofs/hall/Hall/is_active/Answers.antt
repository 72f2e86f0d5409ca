use Rattle.std.proofs.Common.{◌<◌, length, ap, subst, sym, arith}
use Rattle.std.proofs.lemmas.List.{length-map}
use Rattle.hq_job.specs.Plan.{planned}
use Rattle.hq_machine.specs.State.{StateValue}
use Rattle.hq_hall.specs.View.{HallValue}
use Rattle.hq_hall.proofs.hall.Hall.is_active.Goals as goal

pub phase-requires : goal.phase-requires
phase-requires c =
    let h = c.self.inside.history in
    let low : c.args.packet < length h.job.job.packets = subst (λ (hall : HallValue). c.args.packet < length hall.job.job.packets) (sym c.self.view_is) c.requires in
    let count = length-map h.job.job.packets planned in
    let phases = c.run_so_far.ensures.is.lengths.phases in
    let same = ap (λ (v : StateValue). length v.phases) c.state.ensures in
    omega (arith, low, count, phases, same)

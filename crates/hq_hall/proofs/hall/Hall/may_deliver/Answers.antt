use Rattle.std.proofs.Common.{◌≡◌, ◌<◌, length, subst, sym}
use Rattle.hq_hall.specs.declared.stage.Stage.TheVariants as stage
use Rattle.hq_hall.specs.Stages.{stage_of}
use Rattle.hq_hall.specs.View.{HallValue, MayDeliver}
use Rattle.hq_hall.proofs.Packets.{out_delivers}
use Rattle.hq_hall.proofs.hall.Hall.may_deliver.Goals as goal

pub returns : goal.returns
returns c =
    let h = c.self.inside.history in
    let p = c.args.packet in
    let low : p < length h.job.job.packets = subst (λ (hall : HallValue). p < length hall.job.job.packets) (sym c.self.view_is) c.requires.packet in
    let out : stage_of h.events p ≡ stage.Out = subst (λ (hall : HallValue). stage_of hall.events p ≡ stage.Out) (sym c.self.view_is) c.requires.out in
    subst (λ (hall : HallValue). MayDeliver hall p) c.self.view_is
    (record { out = out; enabled = out_delivers h.job.job h.events h.state c.self.inside.grants c.self.inside.stages.items p c.self.invariant.0 low out })

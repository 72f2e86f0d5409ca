use Rattle.std.proofs.Common.{◌≡◌, ◌∙◌, ◌<◌, ap, sym, subst, length, set, List}
use Rattle.hq_ledger.specs.declared.grants.Grant.{Grant}
use Rattle.hq_ledger.specs.Grants.{without}
use Rattle.hq_hall.specs.declared.stage.Stage.TheVariants as stage
use Rattle.hq_hall.specs.Stages.{stage_of}
use Rattle.hq_hall.specs.View.{HallValue, Stood}
use Rattle.hq_hall.proofs.Keeping.{delivered_stood, taken_home}
use Rattle.hq_hall.proofs.hall.Hall.take_back.Goals as goal

home : (c : goal.After-self-1) → c.home-back.new.self ≡ without c.args.packet c.self.inside.grants
home c =
    let low : c.args.packet < length c.self.inside.history.job.job.packets = subst (λ (h : HallValue). c.args.packet < length h.job.job.packets) (sym c.self.view_is) c.requires.packet in
    let out : stage_of c.self.inside.history.events c.args.packet ≡ stage.Out = subst (λ (h : HallValue). stage_of h.events c.args.packet ≡ stage.Out) (sym c.self.view_is) c.requires.out in
    taken_home c.home-back.result c.self.inside.grants c.home-back.new.self c.args.packet c.home-back.ensures.home c.home-back.ensures.not_out ((c.self.invariant.0.are_out c.args.packet).1 (low, out))

pub invariant_of-self-2 : goal.invariant_of-self-2
invariant_of-self-2 c =
    let low : c.args.packet < length c.self.inside.history.job.job.packets = subst (λ (h : HallValue). c.args.packet < length h.job.job.packets) (sym c.self.view_is) c.requires.packet in
    subst (λ (out : List Grant). Stood c.deliver.new.self out (set c.self.inside.stages.items c.args.packet stage.Delivered) c.self.inside.tray.packets) (sym (home c))
    (delivered_stood c.self.inside.history c.deliver.new.self c.args.packet c.self.inside.grants c.self.inside.stages.items c.self.inside.tray.packets low c.in_ok-deliver.ensures.ok c.self.invariant)

pub returns-clause-out : goal.returns-clause-out
returns-clause-out c = home c ∙ ap (λ (h : HallValue). without c.args.packet h.out) c.self.view_is

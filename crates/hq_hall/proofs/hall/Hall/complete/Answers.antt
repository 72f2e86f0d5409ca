use Rattle.std.proofs.Common.{◌≡◌, subst, sym, ◌∙◌, IfErr}
use Rattle.std.proofs.lemmas.Result.{on_ok_weaker}
use Rattle.hq_machine.specs.Enabled.{Possible}
use Rattle.hq_model.specs.Job.{packet}
use Rattle.hq_model.specs.Job.Kind.{Work}
use Rattle.hq_model.specs.Journal.Coarse.{Complete}
use Rattle.hq_hall.specs.declared.stage.Stage.TheVariants as stage
use Rattle.hq_hall.specs.Histories.{Refused}
use Rattle.hq_hall.specs.Stages.{stage_of}
use Rattle.hq_hall.specs.View.{HallValue, MayComplete, job_of}
use Rattle.hq_hall.proofs.Keeping.{complete_stood, refused_weaker}
use Rattle.hq_hall.proofs.hall.Hall.complete.Goals as goal

pub invariant_of-self : goal.invariant_of-self
invariant_of-self c =
    let h = c.self.inside.history in
    let p = c.args.packet in
    let done = c.is_done.ensures.0 c.if-not-is_done.false in
    let delivered : (packet (job_of c.args.self.now) p).kind ≡ Work → stage_of c.args.self.now.events p ≡ stage.Delivered = done.1 in
    complete_stood c.take.result h c.take.new.self p c.self.inside.grants c.self.inside.stages.items c.self.inside.tray.packets c.take.ensures.ok c.take.ensures.err
    (λ out.
    let is = subst (λ (hall : HallValue). (packet (job_of hall) p).kind ≡ Work → stage_of hall.events p ≡ stage.Delivered) (sym c.self.view_is) delivered in
    let never : stage.Out ≡ stage.Delivered = sym out ∙ is (c.self.invariant.0.away p out).work in
    absurd (cc))
    c.self.invariant

pub returns-clause-may : goal.returns-clause-may
returns-clause-may c =
    let p = c.args.packet in
    let done = c.is_done.ensures.0 c.if-not-is_done.false in
    on_ok_weaker c.take.result
    (λ m. record {
      delivered = done.1;
      enabled = subst (λ (hall : HallValue). Possible (job_of hall) hall.state (Complete p)) c.self.view_is (_, m.happens);
    })
    c.take.ensures.ok

pub returns-clause-fault : goal.returns-clause-fault
returns-clause-fault c =
    let p = c.args.packet in
    refused_weaker c.take.result (Possible (job_of c.args.self.now) c.args.self.now.state (Complete p)) (MayComplete c.args.self.now p) (λ m. m.enabled)
    (subst (λ (hall : HallValue). IfErr c.take.result (λ f. Refused (Possible (job_of hall) hall.state (Complete p)) f)) c.self.view_is c.take.ensures.fault)

use Rattle.std.proofs.Common.{sym, ◌∙◌, ap, subst}
use Rattle.hq_job.specs.Plan.{plan}
use Rattle.hq_model.specs.Machine.Event.{Enter}
use Rattle.hq_model.specs.Machine.Phase.{Active}
use Rattle.hq_machine.proofs.Fences.{moved_enter}
use Rattle.hq_machine.specs.Changes.{Moved, in_phase}
use Rattle.hq_machine.specs.State.{StateValue}
use Rattle.hq_machine.proofs.state.State.enter.Goals as goal

pub returns-clause-ok : goal.returns-clause-ok
returns-clause-ok c =
    let job = plan c.args.job.now in
    let a = c.acquire.ensures in
    subst (Moved job c.args.self.now (Enter c.args.packet)) (sym (c.set_phase.ensures ∙ ap (λ (x : StateValue). in_phase x c.args.packet Active) a.copies))
    (moved_enter job c.args.self.now c.args.packet a.start a.stop c.valid.ensures.valid c.requires a.are a.rising a.within (c.may_enter.ensures.0 c.if-not-may_enter.false))

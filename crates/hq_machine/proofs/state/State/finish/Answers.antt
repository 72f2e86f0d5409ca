use Rattle.std.proofs.Common.{◌<◌, IfSome, length, sym, ◌∙◌, ap, subst}
use Rattle.hq_job.specs.Plan.{plan}
use Rattle.hq_model.specs.Machine as machine
use Rattle.hq_machine.proofs.Finishing.{moved_finish}
use Rattle.hq_machine.specs.Changes.{Moved, in_phase, with_decrement}
use Rattle.hq_machine.specs.State.{StateValue}
use Rattle.hq_machine.proofs.state.State.finish.Goals as goal

pub returns-clause-ok : goal.returns-clause-ok
returns-clause-ok c =
    let job = plan c.args.job.now in
    let v = c.args.self.now in
    let below = subst (λ n. IfSome c.done_of.result (λ s. s < n)) (sym c.requires.lengths.signals) c.done_of.ensures.there in
    let there = subst (λ d. IfSome d (λ s. s < length v.signals)) c.done_of.ensures.is below in
    subst (Moved job v (machine.Event.Finish c.args.packet)) (sym (c.set_phase.ensures ∙ ap (λ (x : StateValue). in_phase x c.args.packet machine.Phase.Complete) (c.decrement.ensures ∙ ap (with_decrement v) c.done_of.ensures.is)))
    (moved_finish job v c.args.packet c.requires there (c.may_finish.ensures.0 c.if-not-may_finish.false))

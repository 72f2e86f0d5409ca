use Rattle.std.proofs.Common.{◌≡◌, true, false, sym, subst}
use Rattle.hq_job.specs.Plan.{plan}
use Rattle.hq_model.specs.Machine.Event.{Observe}
use Rattle.hq_machine.proofs.Moves.{moved_observe, not_observable}
use Rattle.hq_machine.specs.Changes.{Moved}
use Rattle.hq_machine.proofs.state.State.observe.Goals as goal

pub returns-clause-ok : goal.returns-clause-ok
returns-clause-ok c =
    let job = plan c.args.job.now in
    subst (Moved job c.args.self.now (Observe c.args.packet c.args.slot)) (sym c.set_observed.ensures) (moved_observe job c.args.self.now c.args.packet c.args.slot c.requires (c.is_observable.ensures.few c.if-not-is_observable.false) (c.is_observable.ensures.may.0 c.if-not-is_observable.false))

pub returns-then-not-is_observable-clause-fault : goal.returns-then-not-is_observable-clause-fault
returns-then-not-is_observable-clause-fault c =
    let job = plan c.args.job.now in
    not_observable job c.args.self.now c.args.packet c.args.slot (λ may. let t : c.is_observable.result ≡ true = c.is_observable.ensures.may.1 may in let f : c.is_observable.result ≡ false = c.if-not-is_observable.true in cc)

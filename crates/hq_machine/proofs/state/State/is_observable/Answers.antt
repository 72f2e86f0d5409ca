use Rattle.std.proofs.Common.{◌≡◌, true, false}
use Rattle.hq_job.specs.Plan.{plan}
use Rattle.hq_machine.proofs.Moves.{observable_some, observable_none}
use Rattle.hq_machine.specs.View.{state_of}
use Rattle.hq_machine.proofs.state.State.is_observable.Goals as goal

pub returns-in-Some-clause-may : goal.returns-in-Some-clause-may
returns-in-Some-clause-may c =
    let h = observable_some (plan c.args.job.now) (state_of (plan c.args.job.now) c.args.self.now) c.args.packet c.args.slot c.in-Some.signal c.in-Some.ensures.found in
    (λ t. h.0 (c.observes.ensures.0 t), λ m. c.observes.ensures.1 (h.1 m))

pub returns-in-None-clause-may : goal.returns-in-None-clause-may
returns-in-None-clause-may c =
    (λ t. let x : false ≡ true = t in cc, λ m. absurd (observable_none (plan c.args.job.now) (state_of (plan c.args.job.now) c.args.self.now) c.args.packet c.args.slot c.in-None.ensures.found m))

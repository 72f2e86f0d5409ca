use Rattle.std.proofs.Common.{sym, subst}
use Rattle.hq_job.specs.Plan.{plan}
use Rattle.hq_model.specs.Machine.Event.{Submit}
use Rattle.hq_machine.proofs.Moves.{moved_submit}
use Rattle.hq_machine.specs.Changes.{Moved}
use Rattle.hq_machine.proofs.state.State.submit.Goals as goal

pub returns-in-Some-clause-ok : goal.returns-in-Some-clause-ok
returns-in-Some-clause-ok c =
    let job = plan c.args.job.now in
    subst (Moved job c.args.self.now Submit) (sym c.set_phase.ensures) (moved_submit job c.args.self.now c.in-Some.number c.requires c.in-Some.ensures)

use Rattle.std.proofs.Common.{◌≡◌, ℕ, ◌<◌, true, List, length, sym, subst, ◌∙◌, arith}
use Rattle.hq_job.specs.Plan.{plan}
use Rattle.hq_model.specs.Machine as machine
use Rattle.hq_model.specs.Machine.{first_phase, is_launched}
use Rattle.hq_model.specs.View.{phases_of}
use Rattle.hq_machine.specs.State.{StateValue}
use Rattle.hq_model.specs.Machine.Event.{Launch}
use Rattle.hq_machine.proofs.Launched.{launched_beside}
use Rattle.hq_machine.proofs.Moves.{moved_launch}
use Rattle.hq_machine.specs.Changes.{Moved}
use Rattle.hq_machine.proofs.state.State.launch.Goals as goal

pub know_launched-requires : goal.know_launched-requires
know_launched-requires c = λ first e from to.
    let job = plan c.args.job.now in
    let number : ℕ = c.in-Some.number in
    let phases : List machine.Phase = c.args.self.now.phases in
    let low : e < number = omega (arith, to, c.earlier.ensures.end) in
    let room : number < length phases = omega (arith, c.in-Some.ensures.is_packet, c.requires.lengths.phases) in
    let before : is_launched (phases_of (first_phase job) phases e) ≡ true = c.in-Some.ensures.next e ((c.earlier.ensures.are e).1 (from, to)) in
    subst (λ (s : StateValue). is_launched (phases_of first s.phases e) ≡ true) (sym c.set_phase.ensures) (launched_beside phases number e machine.Phase.Launched (first_phase job) first low room before)

pub returns-in-Some-clause-ok : goal.returns-in-Some-clause-ok
returns-in-Some-clause-ok c =
    let job = plan c.args.job.now in
    subst (Moved job c.args.self.now (Launch c.args.queue)) (sym (c.know_launched.ensures ∙ c.set_phase.ensures)) (moved_launch job c.args.self.now c.args.queue c.in-Some.number c.requires c.in-Some.ensures)

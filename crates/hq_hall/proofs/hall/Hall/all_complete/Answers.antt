use Rattle.std.proofs.Common.{◌≡◌, ◌∙◌, length, ap, sym, subst, arith}
use Rattle.hq_machine.specs.State.{StateValue}
use Rattle.hq_machine.specs.View.{IsStateOf}
use Rattle.hq_model.specs.Machine.{first_phase}
use Rattle.hq_model.specs.Machine.Phase.{Complete}
use Rattle.hq_model.specs.View.{phases_of}
use Rattle.hq_hall.specs.View.{HallValue, job_of}
use Rattle.hq_hall.proofs.hall.Hall.all_complete.Goals as goal

pub returns : goal.returns
returns c =
    let hall = c.args.self.now in
    let first = first_phase (job_of hall) in
    let st : c.state-state.result.now ≡ hall.state = c.state-state.ensures ∙ ap (λ (h : HallValue). h.state) c.self.view_is in
    let is : IsStateOf (job_of hall) hall.state = subst (λ (h : HallValue). IsStateOf (job_of h) h.state) c.self.view_is c.run_so_far.ensures.is in
    let phases = is.lengths.phases in
    let packets = c.packets.ensures in
    let same = ap (λ (v : StateValue). length v.phases) st in
    let tells = c.all_complete.ensures first in (
      (λ t p low. subst (λ (v : StateValue). phases_of first v.phases p ≡ Complete) st (tells.0 t p (omega arith) (omega (arith, low, phases, packets, same)))),
      (λ all. tells.1 (λ p from low. subst (λ (v : StateValue). phases_of first v.phases p ≡ Complete) (sym st) (all p (omega (arith, low, phases, packets, same))))),
    )

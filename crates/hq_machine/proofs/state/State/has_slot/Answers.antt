use Rattle.hq_job.specs.Plan.{plan}
use Rattle.hq_model.specs.Machine.{first_phase}
use Rattle.hq_machine.proofs.state.State.has_slot.Goals as goal

pub returns : goal.returns
returns c =
    let h = c.all_complete.ensures (first_phase (plan c.args.job.now)) in
    let frees = c.freeing.ensures.are in (
      λ t e f. let r = (frees e).0 f in h.0 t e r.0 r.1,
      λ all. h.1 (λ e low high. all e ((frees e).1 (low, high))),
    )

use Rattle.std.proofs.Common.{◌≡◌, true, sym, ◌∙◌}
use Rattle.hq_job.specs.Plan.{plan}
use Rattle.hq_model.specs.Job.{packet}
use Rattle.hq_model.specs.Machine.{first_phase}
use Rattle.hq_machine.proofs.state.State.bit_is_over.Goals as goal

pub returns : goal.returns
returns c =
    let job = plan c.args.job.now in
    let h = c.all_complete.ensures (first_phase job) in
    let earlier = c.earlier.ensures.are in
    let bit : (packet job c.args.number).bit ≡ true = sym c.has_bit.ensures ∙ c.if-not-has_bit.false in (
      λ t _ e f. let r = (earlier e).0 f in h.0 t e r.0 r.1,
      λ all. h.1 (λ e low high. all bit e ((earlier e).1 (low, high))),
    )

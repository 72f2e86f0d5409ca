use Rattle.std.proofs.Common.{refl}
use Rattle.hq_job.specs.Plan.{plan}
use Rattle.hq_model.specs.Machine.{first_phase}
use Rattle.hq_machine.proofs.state.State.barriers_complete.Goals as goal

pub returns-then-all_complete : goal.returns-then-all_complete
returns-then-all_complete c =
    let all = (c.all_complete.ensures (first_phase (plan c.args.job.now))).0 c.if-all_complete.true in (
      λ _ e low high _. all e low high,
      λ _. refl,
    )

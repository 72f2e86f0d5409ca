use Rattle.std.proofs.Common.{◌≡◌, true, false, sym, ◌∙◌, refl}
use Rattle.hq_job.specs.Plan.{plan}
use Rattle.hq_model.proofs.Places.{none_get}
use Rattle.hq_machine.proofs.state.State.is_unread.Goals as goal

pub returns-in-Some : goal.returns-in-Some
returns-in-Some c = (λ t. let x : false ≡ true = t in cc, λ e. absurd (none_get c.in-Some._byte (sym (c.in-Some.ensures (plan c.args.job.now) ∙ e))))

pub returns-in-None : goal.returns-in-None
returns-in-None c = (λ _. sym (c.in-None.ensures (plan c.args.job.now)), λ _. refl)

use Rattle.std.proofs.Common.{◌≡◌, ◌<◌, ◌↔◌, ℕ, length, subst}
use Rattle.hq_ledger.specs.Grants.{AreApart, IsOut}
use Rattle.hq_hall.specs.declared.stage.Stage.TheVariants as stage
use Rattle.hq_hall.specs.Stages.{stage_of}
use Rattle.hq_hall.specs.View.{HallValue}
use Rattle.hq_hall.proofs.hall.Hall.run_so_far.Goals as goal

pub returns-clause-out : goal.returns-clause-out
returns-clause-out c =
    subst (λ (h : HallValue). (p : ℕ) → IsOut h.out p ↔ ((p < length h.job.job.packets) × (stage_of h.events p ≡ stage.Out))) c.self.view_is c.self.invariant.0.are_out

pub returns-clause-apart : goal.returns-clause-apart
returns-clause-apart c = subst (λ (h : HallValue). AreApart h.out) c.self.view_is c.apart.ensures

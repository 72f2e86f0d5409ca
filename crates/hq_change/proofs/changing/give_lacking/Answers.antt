use Rattle.std.proofs.Common.{sym, ◌∙◌, subst}
use Rattle.std.proofs.lemmas.Result.{IfOk-weaker}
use Rattle.hq_job.specs.Plan.{plan}
use Rattle.hq_change.specs.Minimal.{AtOrAbove}
use Rattle.hq_change.proofs.Whole.{floor_of_highest, fixed_if}
use Rattle.hq_change.proofs.changing.give_lacking.Goals as goal

pub lower-requires-clause-above : goal.lower-requires-clause-above
lower-requires-clause-above g c =
    subst (λ floor. AtOrAbove floor (plan c.set_each_head.new.self)) (sym (c.deref.ensures.value ∙ c.in_ok-floor.ensures))
    (subst (AtOrAbove _) (sym c.set_each_head.ensures.plan) (floor_of_highest c.args.job.now))

pub returns-clause-fixed : goal.returns-clause-fixed
returns-clause-fixed g c =
    fixed_if c.args.job.now c.deref.result.now (plan c.set_each_head.new.self) (plan c.lower.new.job) c.lower.result (c.deref.ensures.value ∙ c.in_ok-floor.ensures) c.set_each_head.ensures.plan c.lower.ensures.minimal c.lower.ensures.below

pub returns-clause-same : goal.returns-clause-same
returns-clause-same g c = IfOk-weaker c.lower.result _ _ (λ _ same. c.set_each_head.ensures.same ∙ same) c.lower.ensures.same

use Rattle.std.proofs.Common.{IsTrue, rules, sym, subst}
use Rattle.hq_job.specs.Plan.{plan}
use Rattle.hq_job.specs.Value.{JobValue}
use Rattle.hq_change.specs.Foresight.{BitsSettled}
use Rattle.hq_change.specs.Minimal.{AtOrAbove}
use Rattle.hq_change.proofs.bits.foreseen.Goals as goal

pub foresee_all-requires-clause-above : goal.foresee_all-requires-clause-above
foresee_all-requires-clause-above g c = subst (λ j. AtOrAbove c.args.search.now.floor.now (plan j)) (sym c.in_ok-low.ensures) c.requires.above

pub returns-in-Ok-true-clause-settled : goal.returns-in-Ok-true-clause-settled
returns-in-Ok-true-clause-settled g c =
    let is : IsTrue c.in-Ok-true.field-0 = search rules in
    subst (λ (j : JobValue). BitsSettled c.args.search.now.floor.now (plan j) (plan c.foresee_all.new.job)) c.in_ok-low.ensures (c.in-Ok-true.ensures.settled is)

use Rattle.std.proofs.Common.{inl, inr, sym, ◌∙◌, arith}
use Rattle.hq_job.specs.Plan.{plan}
use Rattle.hq_model.proofs.SettingsSteps.{raises_on}
use Rattle.hq_change.proofs.Whole.{as_many_values, parts_stay, settled_kept, settled_more}
use Rattle.hq_change.proofs.settling.settle.Goals as goal

pub down-preserved-then-ordered : goal.down-preserved-then-ordered
down-preserved-then-ordered g c =
    let now = plan c.down.job in
    let new = plan c.attempt.new.job in
    let i = c.down.invariant in
    let a = c.in_ok-ordered.ensures.attempted in
    let many = as_many_values c.down.job c.attempt.new.job (sym a.below.same) in
    record {
      on = a.on;
      below = raises_on new now (plan c.args.job.now) a.below i.below;
      same = i.same ∙ c.in_ok-ordered.ensures.same;
      fit = a.fit;
      parts = parts_stay now new c.args.search.now.parts.now (sym a.below.same) i.parts;
      settled = settled_more c.args.search.now.level c.args.search.now.floor.now c.down.to now new a.below (λ p out. a.others p (inr out)) i.settled c.saturating_sub-from.result (a.settled (inl c.if-ordered.true));
      few = omega (arith, many, i.few, c.saturating_sub-from.ensures);
      some = λ more. omega (arith, i.some c.down-test.true, c.min-many.ensures, c.saturating_mul.ensures);
      most = omega (arith, c.min-many.ensures);
    }

pub down-preserved-then-to-from-eq1 : goal.down-preserved-then-to-from-eq1
down-preserved-then-to-from-eq1 g c =
    let now = plan c.down.job in
    let new = plan c.attempt.new.job in
    let i = c.down.invariant in
    let a = c.in_ok-ordered.ensures.attempted in
    let many = as_many_values c.down.job c.attempt.new.job (sym a.below.same) in
    record {
      on = a.on;
      below = raises_on new now (plan c.args.job.now) a.below i.below;
      same = i.same ∙ c.in_ok-ordered.ensures.same;
      fit = a.fit;
      parts = parts_stay now new c.args.search.now.parts.now (sym a.below.same) i.parts;
      settled = settled_more c.args.search.now.level c.args.search.now.floor.now c.down.to now new a.below (λ p out. a.others p (inr out)) i.settled c.saturating_sub-from.result (a.settled (inr (omega (arith, c.if-to-from-eq1.true, c.saturating_sub-from.ensures, c.down-test.true, i.some c.down-test.true))));
      few = omega (arith, many, i.few, c.saturating_sub-from.ensures);
      some = λ more. i.some c.down-test.true;
      most = i.most;
    }

pub down-preserved : goal.down-preserved
down-preserved g c =
    let now = plan c.down.job in
    let new = plan c.attempt.new.job in
    let i = c.down.invariant in
    let a = c.in_ok-ordered.ensures.attempted in
    let many = as_many_values c.down.job c.attempt.new.job (sym a.below.same) in
    record {
      on = a.on;
      below = raises_on new now (plan c.args.job.now) a.below i.below;
      same = i.same ∙ c.in_ok-ordered.ensures.same;
      fit = a.fit;
      parts = parts_stay now new c.args.search.now.parts.now (sym a.below.same) i.parts;
      settled = settled_kept c.args.search.now.level c.args.search.now.floor.now c.down.to now new a.below (λ p out. a.others p (inr out)) i.settled;
      few = omega (arith, many, i.few);
      some = λ more. omega (arith, i.some c.down-test.true, c.if-to-from-eq1.false, c.saturating_sub-from.ensures, c.down-test.true);
      most = omega (arith, i.most, c.saturating_sub-from.ensures, c.down-test.true);
    }

use Rattle.std.proofs.Common.{◌≡◌, ◌-◌, ◌+◌, sym, ◌∙◌, subst, arith}
use Rattle.hq_job.specs.Plan.{plan}
use Rattle.hq_change.specs.Foresight.{AllForeseen}
use Rattle.hq_change.proofs.Foreseeing.{conflicts_stay, more_foreseen}
use Rattle.hq_change.proofs.Whole.{as_many_values}
use Rattle.hq_change.proofs.bits.foresee.Goals as goal

pub foresee_one-requires-clause-conflicts : goal.foresee_one-requires-clause-conflicts
foresee_one-requires-clause-conflicts g c = conflicts_stay (plan c.args.job.now) (plan c.down.job) c.args.foresight.now.conflicts.now (sym c.down.invariant.all.below.same) c.requires.conflicts

pub down-preserved : goal.down-preserved
down-preserved g c =
    let now = plan c.down.job in
    let new = plan c.foresee_one.new.job in
    let one = c.in_ok-foresee_one.ensures.foreseen in
    let many = as_many_values c.down.job c.foresee_one.new.job (sym one.below.same) in
    let last : c.down.to ≡ c.down.to - 1 + 1 = omega (arith, c.down-test.true) in
    record {
      few = omega (arith, many, c.down.invariant.few);
      all = more_foreseen c.args.floor.now (c.down.to - 1) (plan c.args.job.now) now new (subst (λ n. AllForeseen c.args.floor.now n (plan c.args.job.now) now) last c.down.invariant.all) one;
      same = c.down.invariant.same ∙ c.in_ok-foresee_one.ensures.same;
    }

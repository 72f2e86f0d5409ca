use Rattle.std.proofs.Common.{sym, subst}
use Rattle.hq_job.specs.Plan.{plan}
use Rattle.hq_change.proofs.Whole.{above_ground, trimmed_if, ground_of, IsGround}
use Rattle.hq_change.proofs.changing.take_needless.Goals as goal

pub lower-requires-clause-above : goal.lower-requires-clause-above
lower-requires-clause-above g c = above_ground c.deref.result.now (plan c.args.job.now) (subst IsGround (sym c.deref.ensures.value) (ground_of c.in_ok-floor.floor.items _ (c.in_ok-floor.ensures.items_if_clones_equal (λ y h. h))))

pub returns-clause-trimmed : goal.returns-clause-trimmed
returns-clause-trimmed g c = trimmed_if c.deref.result.now (plan c.args.job.now) (plan c.lower.new.job) c.lower.result (subst IsGround (sym c.deref.ensures.value) (ground_of c.in_ok-floor.floor.items _ (c.in_ok-floor.ensures.items_if_clones_equal (λ y h. h)))) c.lower.ensures.minimal c.lower.ensures.below

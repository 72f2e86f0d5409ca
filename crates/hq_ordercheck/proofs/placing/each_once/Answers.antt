use Rattle.std.proofs.Common.{◌≡◌, false}
use Rattle.hq_job.specs.Plan.{plan}
use Rattle.hq_ordercheck.proofs.Orders.{each_of, once_of, low_of}
use Rattle.hq_ordercheck.proofs.placing.each_once.Goals as goal

pub returns-then-all_below : goal.returns-then-all_below
returns-then-all_below c = (
  λ t. each_of (plan c.args.job.now) c.args.list.now c.args.places.now c.requires.places c.requires.packets (c.all_below.ensures.0 c.if-all_below.true) (c.none_twice.ensures.0 t),
  λ h. c.none_twice.ensures.1 (once_of (plan c.args.job.now) c.args.list.now c.args.places.now c.requires.places h),
)

pub returns-else-all_below : goal.returns-else-all_below
returns-else-all_below c = (
  λ t. let no : c.all_below.result ≡ false = c.if-all_below.false in let never : ⊥ = cc in absurd never,
  λ h. c.all_below.ensures.1 (low_of (plan c.args.job.now) c.args.list.now c.args.places.now c.requires.places h),
)

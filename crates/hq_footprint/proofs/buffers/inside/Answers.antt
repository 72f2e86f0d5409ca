use Rattle.std.proofs.Common.{refl}
use Rattle.hq_footprint.specs.Bytes.{ranges_of}
use Rattle.hq_footprint.proofs.Whole.{some_outside}
use Rattle.hq_footprint.proofs.buffers.inside.Goals as goal

pub returns-then-not-all_inside-clause-outside : goal.returns-then-not-all_inside-clause-outside
returns-then-not-all_inside-clause-outside c = (λ e. (c.in_ok-check_fits.ensures, some_outside c.args.ranges.now (ranges_of c.args.foot.now) (λ all. let t = c.all_inside.ensures.1 all in cc)), λ both. refl)

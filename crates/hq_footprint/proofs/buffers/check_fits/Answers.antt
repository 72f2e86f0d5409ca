use Rattle.std.proofs.Common.{refl}
use Rattle.hq_footprint.specs.Bytes.{ranges_of}
use Rattle.hq_footprint.proofs.Whole.{some_passes}
use Rattle.hq_footprint.proofs.buffers.check_fits.Goals as goal

pub returns-else-all_fit : goal.returns-else-all_fit
returns-else-all_fit c = (refl, some_passes (ranges_of c.args.foot.now) (λ all. let t = c.all_fit.ensures.1 all in cc))

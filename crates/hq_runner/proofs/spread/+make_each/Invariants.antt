use Rattle.std.proofs.Common.{length}
use Rattle.hq_runner.proofs.spread.+make_each.Given as goal

abbrev pub decreases-make_each : goal.decreases-make_each
decreases-make_each g l = length l.jobs.items

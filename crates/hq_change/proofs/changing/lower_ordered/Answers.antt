use Rattle.std.proofs.Common.{sym, subst}
use Rattle.hq_job.specs.Plan.{plan}
use Rattle.hq_change.specs.Minimal.{IsOn}
use Rattle.hq_change.proofs.Whole.{starts_on}
use Rattle.hq_change.proofs.changing.lower_ordered.Goals as goal

pub lower_all-requires-clause-on : goal.lower_all-requires-clause-on
lower_all-requires-clause-on g c =
    subst (IsOn c.args.floor.now (plan c.args.job.now)) (sym c.in_ok-heads.ensures) (starts_on c.args.floor.now c.args.job.now c.requires.floored c.requires.above c.requires.ordered)

use Rattle.std.proofs.Common.{◌-◌, length}
use Rattle.hq_change.proofs.trial.is_shown_around.Given as goal

abbrev pub decreases-others : goal.decreases-others
decreases-others l = length l.before.packets - l.b

use Rattle.std.proofs.Common.{◌<◌, ◌-◌, length}
use Rattle.hq_audit.specs.Refused.{RowShown}
use Rattle.hq_audit.proofs.verdicts.row_shown.Given as goal

abbrev pub invariant-others : goal.invariant-others
invariant-others l = record {
  above : l.a < l.b;
  shown : RowShown l.before l.a l.b;
}

abbrev pub decreases-others : goal.decreases-others
decreases-others l = length l.before.packets - l.b

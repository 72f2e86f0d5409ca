use Rattle.hq_audit.specs.Refused.{RowsShown}
use Rattle.hq_audit.proofs.verdicts.all_shown.Given as goal

abbrev pub invariant-loop-a : goal.invariant-loop-a
invariant-loop-a l = record { shown : RowsShown l.before l.a }

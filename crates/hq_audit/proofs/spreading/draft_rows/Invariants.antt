use Rattle.hq_audit.specs.Rowed.{DraftsRows}
use Rattle.hq_audit.proofs.spreading.draft_rows.Given as goal

abbrev pub invariant-loop-a : goal.invariant-loop-a
invariant-loop-a l = DraftsRows l.before l.fn.from l.a l.drafts

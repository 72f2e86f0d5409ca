use Rattle.hq_audit.specs.Rowed.{DraftsUpto}
use Rattle.hq_audit.proofs.drafting.draft_all.Given as goal

abbrev pub invariant-loop-a : goal.invariant-loop-a
invariant-loop-a l = DraftsUpto l.before l.a l.drafts

use Rattle.std.proofs.Common.{◌<◌, ◌-◌, length}
use Rattle.hq_audit.specs.Drafted.{drafts_of, DraftsGo}
use Rattle.hq_audit.specs.Paired.{RowPaired}
use Rattle.hq_audit.specs.Refused.{RowShown}
use Rattle.hq_audit.proofs.drafting.Drafts.add_others.Given as goal

abbrev pub invariant-others : goal.invariant-others
invariant-others l = record {
  above : l.a < l.b;
  goes : DraftsGo l.before l.fn.self l.self;
  paired : RowPaired l.before (drafts_of l.self) l.a l.b;
  shown : RowShown l.before l.a l.b;
}

abbrev pub decreases-others : goal.decreases-others
decreases-others l = length l.before.packets - l.b

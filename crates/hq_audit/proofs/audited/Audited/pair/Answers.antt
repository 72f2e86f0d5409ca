use Rattle.std.proofs.Common.{◌≡◌, false, sym, ◌∙◌}
use Rattle.hq_job.specs.Plan.{plan}
use Rattle.hq_derive.specs.Needed.{HasLine}
use Rattle.hq_audit.specs.Audited.{lines_in, lists_in, drafts_in}
use Rattle.hq_audit.specs.Drafted.{is_chained, IsDraft}
use Rattle.hq_audit.proofs.Listing.{of_list, none_chained}
use Rattle.hq_audit.proofs.audited.Audited.pair.Goals as goal

pub plain_pair-requires-clause-is : goal.plain_pair-requires-clause-is
plain_pair-requires-clause-is c =
    let a = c.args.self.now in
    of_list (IsDraft (plan c.args.job.now) (HasLine (lines_in a))) (lists_in a) c.args.list c.args.k c.draft.result c.draft.ensures c.requires.audited.each

pub plain_pair-requires-clause-plain : goal.plain_pair-requires-clause-plain
plain_pair-requires-clause-plain c =
    let a = c.args.self.now in
    of_list (λ d. is_chained d.means ≡ false) (lists_in a) c.args.list c.args.k c.draft.result c.draft.ensures (none_chained (drafts_in a) (sym c.requires.audited.chained ∙ c.requires.plain))

use Rattle.std.proofs.Common.{◌∙◌, ap}
use Rattle.hq_audit.specs.Drafted.{listed}
use Rattle.hq_audit.proofs.Listing.{lists_push}
use Rattle.hq_audit.proofs.drafting.Drafts.into_lists.Goals as goal

pub returns : goal.returns
returns c = ap listed c.in_ok-push.ensures.items ∙ lists_push c.args.self.full.items c.args.self.last

use Rattle.hq_derive.specs.Needed.{IsNeeded}
use Rattle.hq_audit.specs.Drafted.{drafts_of}
use Rattle.hq_audit.proofs.Resting.{drafts_more}
use Rattle.hq_audit.proofs.drafting.Drafts.close_keeping.Goals as goal

pub returns-clause-are : goal.returns-clause-are
returns-clause-are c =
    let old = c.args.self.now in
    let new = c.close_keeping.new.self in
    let widens = c.close_keeping.ensures in
    record {
      room = widens.room;
      each = drafts_more (IsNeeded old.needs) (IsNeeded new) widens.needed c.args.before.now (drafts_of old) c.requires.each;
      chained = c.requires.chained;
    }

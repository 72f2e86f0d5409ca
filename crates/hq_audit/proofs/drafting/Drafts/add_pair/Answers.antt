use Rattle.hq_audit.proofs.Pairing.{one_of}
use Rattle.hq_audit.proofs.Turning.{one_way}
use Rattle.hq_audit.specs.Drafted.{drafts_of}
use Rattle.hq_audit.proofs.drafting.Drafts.add_pair.Goals as goal

pub returns-clause-has : goal.returns-clause-has
returns-clause-has c = one_of c.args.before.now c.args.a c.args.b c.in-Some.direction (drafts_of c.add_directed.new.self) c.in-Some.ensures c.in_ok-add_directed.ensures.has

pub returns-clause-shown : goal.returns-clause-shown
returns-clause-shown c = one_way c.args.before.now c.args.a c.args.b c.in-Some.direction c.in-Some.ensures

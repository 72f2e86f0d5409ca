use Rattle.hq_audit.proofs.Turning.{one_way}
use Rattle.hq_audit.proofs.verdicts.pair_shown.Goals as goal

pub returns-clause-shown : goal.returns-clause-shown
returns-clause-shown c = one_way c.args.before.now c.args.a c.args.b c.in_ok-direct.field-0 c.in_ok-direct.ensures

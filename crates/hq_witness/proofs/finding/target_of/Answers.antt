use Rattle.hq_audit.proofs.Turning.{one_way}
use Rattle.hq_witness.proofs.finding.target_of.Goals as goal

pub returns-in-Ok : goal.returns-in-Ok
returns-in-Ok c = one_way c.args.known.before.now c.args.a c.args.b c.in-Ok._directed c.in-Ok.ensures

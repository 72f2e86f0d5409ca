use Rattle.hq_audit.specs.Refused.{IsUnshown}
use Rattle.hq_audit.proofs.Pairing.{one_of}
use Rattle.hq_audit.proofs.Turning.{one_way, refused_on, memory_on}
use Rattle.hq_audit.specs.Drafted.{drafts_of}
use Rattle.hq_audit.proofs.drafting.Drafts.add_judged.Goals as goal

pub returns-clause-has : goal.returns-clause-has
returns-clause-has c = one_of c.args.before.now c.args.a c.args.b c.in_ok-direction.direction (drafts_of c.add_directed.new.self) c.in_ok-direction.ensures c.in_ok-add_directed.ensures.has

pub returns-clause-shown : goal.returns-clause-shown
returns-clause-shown c = one_way c.args.before.now c.args.a c.args.b c.in_ok-direction.direction c.in_ok-direction.ensures

pub returns-in_err-direction-clause-refused : goal.returns-in_err-direction-clause-refused
returns-in_err-direction-clause-refused c = refused_on (IsUnshown c.args.before.now c.args.a c.args.b) c.from_residual.result c.in_err-direction.field-0.0 c.from_residual.ensures.1 c.in_err-direction.ensures

pub returns-in_err-add_directed-clause-refused : goal.returns-in_err-add_directed-clause-refused
returns-in_err-add_directed-clause-refused c = memory_on (IsUnshown c.args.before.now c.args.a c.args.b) c.from_residual-in_err-add_directed.result c.from_residual-in_err-add_directed.ensures.1

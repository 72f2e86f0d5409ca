use Rattle.std.proofs.Common.{Some, None}
use Rattle.hq_signals.proofs.Verdicts.{undershoot, never_zero}
use Rattle.hq_signals.proofs.table.SignalTable.verdict.Goals as goal

pub returns-in-Some-clause-undershoot : goal.returns-in-Some-clause-undershoot
returns-in-Some-clause-undershoot c = undershoot c.args.self.now (Some c.in-Some.handle) None c.in-Some.ensures

pub returns-in-Some-first_never_zero-clause-undershoot : goal.returns-in-Some-first_never_zero-clause-undershoot
returns-in-Some-first_never_zero-clause-undershoot c =
    undershoot c.args.self.now None (Some c.in-Some-first_never_zero.handle) c.in_default.ensures

pub returns-in-Some-first_never_zero-clause-never_zero : goal.returns-in-Some-first_never_zero-clause-never_zero
returns-in-Some-first_never_zero-clause-never_zero c =
    never_zero c.args.self.now None (Some c.in-Some-first_never_zero.handle) c.in_default.ensures c.in-Some-first_never_zero.ensures

pub returns-clause-undershoot : goal.returns-clause-undershoot
returns-clause-undershoot c = undershoot c.args.self.now None None c.in_default.ensures

pub returns-clause-never_zero : goal.returns-clause-never_zero
returns-clause-never_zero c = never_zero c.args.self.now None None c.in_default.ensures c.in_default-first_never_zero.ensures

use Rattle.hq_tables.proofs.Verdicts.{told}
use Rattle.hq_tables.proofs.tables.Tables.verdict.Goals as goal

pub returns-clause-fault : goal.returns-clause-fault
returns-clause-fault c = told c.verdict.result c.args.self.now.signals c.verdict.ensures.undershoot c.verdict.ensures.never_zero

use Rattle.hq_rows.proofs.Exchanging.{lower_own, lower_other}
use Rattle.hq_rows.proofs.turning.lower.Goals as goal

pub returns-clause-own : goal.returns-clause-own
returns-clause-own c = λ j l e. lower_own c.args.step c.args.mask c.requires c.args.first c.args.second j l e

pub returns-clause-other : goal.returns-clause-other
returns-clause-other c = λ j l e. lower_other c.args.step c.args.mask c.requires c.args.first c.args.second j l e

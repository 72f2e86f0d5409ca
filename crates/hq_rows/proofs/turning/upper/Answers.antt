use Rattle.hq_rows.proofs.Exchanging.{upper_own, upper_other}
use Rattle.hq_rows.proofs.turning.upper.Goals as goal

pub returns-clause-own : goal.returns-clause-own
returns-clause-own c = λ j l e. upper_own c.args.step c.args.mask c.requires c.args.first c.args.second j c.ranges.mask.fits l e

pub returns-clause-other : goal.returns-clause-other
returns-clause-other c = λ j l e. upper_other c.args.step c.args.mask c.requires c.args.first c.args.second j c.ranges.mask.fits l e

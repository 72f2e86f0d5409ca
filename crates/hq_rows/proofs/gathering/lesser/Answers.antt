use Rattle.std.proofs.Common.{◌<◌, arith}
use Rattle.hq_rows.proofs.Gathered.{bit_low}
use Rattle.hq_rows.proofs.gathering.lesser.Goals as goal

pub without-requires-clause-low : goal.without-requires-clause-low
without-requires-clause-low c = let low : c.args.bit < 4 = bit_low c.args.choice c.args.bit c.requires.low c.requires.has in omega arith

pub returns-clause-low : goal.returns-clause-low
returns-clause-low c = bit_low c.args.choice c.args.bit c.requires.low c.requires.has

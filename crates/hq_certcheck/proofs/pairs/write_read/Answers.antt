use Rattle.std.proofs.Common.{arith}
use Rattle.std.proofs.lemmas.Grind.{common_steps}
use Rattle.hq_certcheck.proofs.pairs.write_read.Goals as goal

pub returns-then-says : goal.returns-then-says
returns-then-says c = grind (arith, common_steps)

pub returns-else-says : goal.returns-else-says
returns-else-says c = grind (arith, common_steps)

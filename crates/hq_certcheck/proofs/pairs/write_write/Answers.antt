use Rattle.std.proofs.Common.{arith}
use Rattle.std.proofs.lemmas.Grind.{common_steps}
use Rattle.hq_certcheck.proofs.pairs.write_write.Goals as goal

pub returns-then-cites : goal.returns-then-cites
returns-then-cites c = grind (arith, common_steps)

pub returns-else-cites : goal.returns-else-cites
returns-else-cites c = grind (arith, common_steps)

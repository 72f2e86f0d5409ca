use Rattle.std.proofs.Common.{arith}
use Rattle.std.proofs.lemmas.Grind.{common_steps}
use Rattle.hq_ordercheck.proofs.placing.numbers.Goals as goal

pub returns-then-number-count : goal.returns-then-number-count
returns-then-number-count c = grind (arith, common_steps)

pub loop-number-preserved : goal.loop-number-preserved
loop-number-preserved c = grind (arith, common_steps)

pub returns : goal.returns
returns c = grind (arith, common_steps)

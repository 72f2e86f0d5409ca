use Rattle.std.proofs.Common.{arith}
use Rattle.std.proofs.lemmas.Grind.{common_steps}
use Rattle.hq_ordercheck.proofs.waits.note_lasts.Goals as goal

pub loop-number-init : goal.loop-number-init
loop-number-init c = grind (arith, common_steps)

pub returns : goal.returns
returns c = grind (arith, common_steps)

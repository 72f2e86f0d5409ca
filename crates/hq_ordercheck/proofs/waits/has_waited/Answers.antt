use Rattle.std.proofs.Common.{arith}
use Rattle.std.proofs.lemmas.Grind.{common_steps}
use Rattle.hq_ordercheck.proofs.waits.has_waited.Goals as goal

pub is_or-requires : goal.is_or-requires
is_or-requires c = grind (arith, common_steps)

use Rattle.std.proofs.Common.{arith}
use Rattle.std.proofs.lemmas.Grind.{common_steps}
use Rattle.hq_ordercheck.proofs.order.is_order_list.Goals as goal

pub last_places-requires : goal.last_places-requires
last_places-requires c = grind (arith, common_steps)

use Rattle.std.proofs.Common.{arith}
use Rattle.std.proofs.lemmas.Grind.{common_steps}
use Rattle.hq_ordercheck.proofs.placing.places.Goals as goal

pub set_places-requires : goal.set_places-requires
set_places-requires c = grind (arith, common_steps)

pub returns : goal.returns
returns c = grind (arith, common_steps)

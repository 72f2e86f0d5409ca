use Rattle.std.proofs.Common.{arith}
use Rattle.std.proofs.lemmas.Grind.{common_steps}
use Rattle.hq_ordercheck.proofs.waits.last_places.Goals as goal

pub note_lasts-requires-clause-none : goal.note_lasts-requires-clause-none
note_lasts-requires-clause-none c = grind (arith, common_steps)

pub returns : goal.returns
returns c = grind (arith, common_steps)

use Rattle.std.proofs.lemmas.Result.{on_ok_weaker}
use Rattle.hq_order.proofs.sweeping.unite_waits.Goals as goal

pub returns-in-And-clause-ands : goal.returns-in-And-clause-ands
returns-in-And-clause-ands c = on_ok_weaker c.unite_branches.result (λ h. λ p slot s kind d reach. h p slot s d reach) c.unite_branches.ensures.taken

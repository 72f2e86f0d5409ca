use Rattle.hq_model.proofs.examples.either_orders.Goals as goal
use Rattle.hq_model.proofs.ExamplesLaws as laws

pub returns : goal.returns
returns c = laws.either_orders

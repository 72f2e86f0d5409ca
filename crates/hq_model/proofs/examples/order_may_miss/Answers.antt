use Rattle.hq_model.proofs.examples.order_may_miss.Goals as goal
use Rattle.hq_model.proofs.ExamplesLaws as laws

pub returns : goal.returns
returns c = laws.order_may_miss

use Rattle.hq_model.proofs.examples.rows_are_stuck.Goals as goal
use Rattle.hq_model.proofs.ExamplesLaws as laws

pub returns : goal.returns
returns c = laws.rows_are_stuck

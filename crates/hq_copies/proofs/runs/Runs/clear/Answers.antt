use Rattle.hq_copies.proofs.Marks.{runs_none}
use Rattle.hq_copies.proofs.runs.Runs.clear.Goals as goal

pub returns-clause-runs : goal.returns-clause-runs
returns-clause-runs c = rw (c.clear.ensures.items, c.clear-2.ensures.items) runs_none

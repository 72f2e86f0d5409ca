use Rattle.hq_job.specs.Plan.{plan}
use Rattle.hq_order.specs.Rounds.{AreRounds}
use Rattle.hq_rows.specs.Matrix.{last, earlier, lag}
use Rattle.hq_rows.specs.Uniting.{Stepped}
use Rattle.hq_order.proofs.before.all_rounds.Given as goal

abbrev pub invariant-rounds : goal.invariant-rounds
invariant-rounds g l = record {
  rounds : AreRounds (plan l.job) l.rounds.items;
  stepped : Stepped (earlier l.rounds.items) (last l.rounds.items) l.renewed.items;
}

abbrev pub decreases-rounds : goal.decreases-rounds
decreases-rounds g l = lag l.rounds.items

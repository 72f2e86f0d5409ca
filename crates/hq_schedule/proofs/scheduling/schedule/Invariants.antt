use Rattle.std.proofs.Common.{◌≡◌, ◌<◌, ℕ, IsTrue, length}
use Rattle.hq_job.specs.Plan.{plan}
use Rattle.hq_schedule.specs.Least.{LeastFirst}
use Rattle.hq_model.proofs.Schedule.{to_place}
use Rattle.hq_bits.specs.Bits.{has}
use Rattle.hq_schedule.specs.Placing.{HasAhead, HasCome}
use Rattle.hq_schedule.proofs.scheduling.schedule.Given as goal

abbrev pub invariant-loop-number : goal.invariant-loop-number
invariant-loop-number l = record {
  least : LeastFirst (plan l.job) l.list.items;
  come : HasCome l.come.items l.list.items;
  ahead : HasAhead (plan l.job) l.come.items;
  len : length l.come.items ≡ l.words;
  first : (r : ℕ) → r < l.first → IsTrue (has l.come.items r);
}

abbrev pub decreases-loop-number : goal.decreases-loop-number
decreases-loop-number l = to_place (plan l.job) l.list.items

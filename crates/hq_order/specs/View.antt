-- What a `Before`'s fields mean, and what is known of each.
use Rattle.std.specs.Prelude.{◌≡◌, ℕ}
use Rattle.hq_job.specs.Plan.{plan}
use Rattle.hq_model.specs.Job.{Job}
use Rattle.hq_model.specs.Settings.{SameButHeads, head_at}
use Rattle.hq_order.specs.declared.before.Before.TheInside.{Inside}
use Rattle.hq_order.specs.declared.before.Rounds.{Rounds}
use Rattle.hq_order.specs.Rounds.{AreRounds, IsClosed}
use Rattle.hq_rows.specs.Matrix.{AreTurned}

-- the plan of its job
abbrev pub order_of : Inside → Job
order_of b = plan b.job.now

-- the rounds are all that a job has, and the columns are those but the last turned round
pub record AreOf (job : Job) (r : Rounds) : Type 0 where
  pub rounds : AreRounds job r.rounds.items
  pub closed : IsClosed job r.rounds.items
  pub turned : AreTurned r.rounds.items r.columns.items

-- its rounds are those of its job
abbrev pub IsOrder : Inside → Type 0
IsOrder b = AreOf (order_of b) b.found

-- The jobs differ in nothing but the scopes of fences.
pub record SameButScopes (j k : Job) : Type 0 where
  pub heads : SameButHeads j k
  pub bits : (p : ℕ) → (head_at j p).barrier ≡ (head_at k p).barrier

-- ---- the law

-- The order of a job rests on no fence: rounds are those of each job that differs in nothing but scopes.
abbrev pub ScopesLeaveRounds : Type 0
ScopesLeaveRounds = (j k : Job) (r : Rounds) → SameButScopes j k → AreOf j r → AreOf k r

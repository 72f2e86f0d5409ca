-- What an `Accepted`'s fields mean, and what is known of each.
use Rattle.std.specs.Prelude.{ℕ, List}
use Rattle.hq_job.specs.Value.{JobValue}
use Rattle.hq_job.specs.Plan.{plan}
use Rattle.hq_model.specs.Fence.{Ordered}
use Rattle.hq_model.specs.Order.{OrderList}
use Rattle.hq_certcheck.specs.declared.accepted.Accepted.TheInside.{Inside}

-- a job, and an order of its packets
pub record AcceptedJob : Type 0 where
  pub job : JobValue
  pub order : List ℕ

-- the job that was accepted, and the order of its packets that is kept with it
abbrev pub accepted_of : Inside → AcceptedJob
accepted_of a = record { job = a.job; order = a.order.items }

-- the job is ordered, and this is an order list of it
pub record IsAccepted (a : Inside) : Type 0 where
  pub ordered : Ordered (plan a.job)
  pub list : OrderList (plan a.job) a.order.items

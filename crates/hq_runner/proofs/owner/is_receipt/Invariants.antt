use Rattle.std.proofs.Common.{◌≡◌, ◌≤◌, take, filter, length}
use Rattle.hq_job.specs.Plan.{plan}
use Rattle.hq_runner.specs.Journals.{owned}
use Rattle.hq_runner.proofs.owner.is_receipt.Given as goal

abbrev pub invariant-loop-event : goal.invariant-loop-event
invariant-loop-event l = record {
  room : l.next ≤ length l.list;
  same : filter (owned (plan l.job) l.owner) (take l.event-index l.journal) ≡ take l.next l.list;
}

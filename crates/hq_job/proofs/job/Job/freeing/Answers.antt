use Rattle.std.proofs.Common.{arith, rules, ◌<◌}
use Rattle.hq_job.specs.Plan.{plan}
use Rattle.hq_model.specs.Job.{size_of}
use Rattle.hq_job.proofs.Rings.{frees_are, size_positive}
use Rattle.hq_job.proofs.job.Job.freeing.Goals as goal

pub returns-clause-are : goal.returns-clause-are
returns-clause-are c = λ e.
    let job = plan c.args.self.now in
    let queue = c.queue_of-start.ensures in
    let some : 0 < size_of job c.args.number = size_positive job c.args.number c.valid.ensures.valid c.requires in
    let are = frees_are job c.queue_of-start.result.start c.queue_of-start.result.end c.args.number queue.are c.requires queue.from queue.to some (search rules) e in (
      λ f. let inside = are.0 f in (inside.0, omega (arith, inside.1, c.slots_of.ensures, c.saturating_sub-end.ensures, c.max.ensures)),
      λ (low, high). are.1 (low, omega (arith, low, high, c.slots_of.ensures, c.saturating_sub-end.ensures, c.max.ensures)),
    )

pub returns-clause-ahead : goal.returns-clause-ahead
returns-clause-ahead c = omega (arith, size_positive (plan c.args.self.now) c.args.number c.valid.ensures.valid c.requires, c.slots_of.ensures, c.saturating_sub-end.ensures, c.max.ensures, c.queue_of-start.ensures.from)

use Rattle.std.specs.List.{each_same}
use Rattle.hq_job.proofs.Copied.{fit_copied}
use Rattle.hq_job.proofs.job.Job.copy.Goals as goal

pub invariant_of-result : goal.invariant_of-result
invariant_of-result c =
    fit_copied c.self.inside _ c.in_ok-tables.ensures (each_same _ _ c.in_ok-packets.ensures.cases.0) (each_same _ _ c.in_ok-firsts.ensures.cases.0) (each_same _ _ c.in_ok-submissions.ensures.cases.0)
    c.self.invariant

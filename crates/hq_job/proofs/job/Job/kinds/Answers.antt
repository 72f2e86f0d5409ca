use Rattle.std.proofs.Common.{sym}
use Rattle.hq_job.specs.Plan.{plan}
use Rattle.hq_job.proofs.Shares.{flags}
use Rattle.hq_job.proofs.job.Job.kinds.Goals as goal

pub returns : goal.returns
returns c = flags (plan c.args.self.now) c.args.first c.args.second c.packet-first.result.now c.packet-second.result.now c.kinds_of.result (sym c.packet-first.ensures) (sym c.packet-second.ensures) c.kinds_of.ensures

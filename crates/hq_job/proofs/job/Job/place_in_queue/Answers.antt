use Rattle.std.proofs.Common.{refl, arith}
use Rattle.hq_job.specs.Plan.{plan}
use Rattle.hq_model.specs.Job.{packet}
use Rattle.hq_job.proofs.Rings.{place_is}
use Rattle.hq_job.proofs.job.Job.place_in_queue.Goals as goal

pub returns : goal.returns
returns c =
    let job = plan c.args.self.now in
    let queue = c.queue_of.ensures in
    omega (arith, place_is job (packet job c.args.number).queue c.queue_of.result.start c.queue_of.result.end c.args.number queue.are refl queue.from queue.to)

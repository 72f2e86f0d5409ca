use Rattle.std.proofs.Common.{◌≤◌, length, refl, subst, arith}
use Rattle.std.proofs.lemmas.List.{length-map}
use Rattle.hq_job.specs.Access.{AreOfQueue}
use Rattle.hq_job.specs.Plan.{plan, planned}
use Rattle.hq_model.specs.Job.{packet}
use Rattle.hq_fence.proofs.Wrapping.{queue_circuit}
use Rattle.hq_fence.proofs.search.queue_of.Goals as goal

pub returns : goal.returns
returns c =
    let job = c.job-job.result.now in
    let start = c.queue_of-numbers.result.start in
    let end = c.queue_of-numbers.result.end in
    let few : length (plan job).packets ≤ 1024 = omega (arith, length-map job.packets planned, c.valid.ensures.limits.packets) in
    let few' : length c.args.before.now.packets ≤ 1024 = subst (λ j. length j.packets ≤ 1024) c.job-job.ensures few in
    queue_circuit c.args.before.now c.args.p (packet c.args.before.now c.args.p).queue start end c.requires few' refl
    (subst (λ j. AreOfQueue j (packet j c.args.p).queue start end) c.job-job.ensures c.queue_of-numbers.ensures.are)

use Rattle.hq_job.specs.Plan.{plan}
use Rattle.hq_runner.proofs.Endings.{placed}
use Rattle.hq_runner.proofs.threads.run_rings.Goals as goal

pub returns-clause-ended : goal.returns-clause-ended
returns-clause-ended g c =
    placed (λ place. place.kit) (λ b. (goal.KernelBody-dyn g (b.vtable, b.value)).kernel b.value) (λ b. (goal.ServiceBody-dyn g (b.vtable, b.value)).service b.value)
    (plan c.args.job.now) c.args.places.items c.in_ok-hosted.ended.items c.in_ok-hosted.ensures.each

use Rattle.hq_job.specs.Plan.{plan}
use Rattle.hq_runner.proofs.Endings.{answer_placed}
use Rattle.hq_runner.proofs.threads.run_queues.Goals as goal

pub returns : goal.returns
returns g c =
    answer_placed (λ place. place.kit) (λ b. (goal.KernelBody-dyn g (b.vtable, b.value)).kernel b.value) (λ b. (goal.ServiceBody-dyn g (b.vtable, b.value)).service b.value)
    (plan c.args.job.now) c.args.places.items (λ all. all.items) c.run_each.result c.run_each.ensures

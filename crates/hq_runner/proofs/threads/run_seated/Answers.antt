use Rattle.std.proofs.Common.{map}
use Rattle.hq_runner.proofs.Endings.{of_same}
use Rattle.hq_runner.proofs.threads.run_seated.Goals as goal

pub returns : goal.returns
returns g c =
    of_same (λ b. (goal.KernelBody-dyn g (b.vtable, b.value)).kernel b.value) (λ b. (goal.ServiceBody-dyn g (b.vtable, b.value)).service b.value)
    c.job.result.now c.args.accepted.now.job (map (λ place. place.kit) c.in_ok-places.places.items) c.args.kits.items (λ all. all.items) c.run_queues.result
    c.job.ensures c.in_ok-places.ensures c.run_queues.ensures

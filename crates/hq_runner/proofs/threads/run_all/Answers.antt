use Rattle.std.proofs.Common.{map}
use Rattle.hq_runner.proofs.Endings.{of_same}
use Rattle.hq_runner.proofs.threads.run_all.Goals as goal

pub returns-then-rings-clause-ended : goal.returns-then-rings-clause-ended
returns-then-rings-clause-ended g c =
    of_same (λ b. (goal.KernelBody-dyn g (b.vtable, b.value)).kernel b.value) (λ b. (goal.ServiceBody-dyn g (b.vtable, b.value)).service b.value)
    c.job-job.result.now c.args.accepted.now.job (map (λ place. place.kit) c.in_ok-places.places.items) c.args.kits.items (λ all. all.1.items) c.run_rings.result
    c.job-job.ensures c.in_ok-places.ensures c.run_rings.ensures.ended

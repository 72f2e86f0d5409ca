use Rattle.std.proofs.Common.{◌∙◌, sym}
use Rattle.std.proofs.lemmas.List.{length-map}
use Rattle.hq_job.specs.Plan.{plan}
use Rattle.hq_runner.proofs.Endings.{lists_done, outcome_ran}
use Rattle.hq_runner.proofs.engine.run.Goals as goal

pub finish-requires-clause-lists : goal.finish-requires-clause-lists
finish-requires-clause-lists g c =
    lists_done (λ b. (goal.KernelBody-dyn g (b.vtable, b.value)).kernel b.value) (λ b. (goal.ServiceBody-dyn g (b.vtable, b.value)).service b.value) (plan c.args.accepted.now.job) c.args.kits.items c.in-Ok-run_all.all.items
    c.in-Ok-run_all.ensures.ended
    (sym (length-map c.args.kits.items _) ∙ c.requires.count ∙ sym (length-map c.args.accepted.now.job.queues (λ q. q.agent)))

pub returns-clause-kits : goal.returns-clause-kits
returns-clause-kits g c =
    outcome_ran (λ b. (goal.KernelBody-dyn g (b.vtable, b.value)).kernel b.value) (λ b. (goal.ServiceBody-dyn g (b.vtable, b.value)).service b.value) (plan c.args.accepted.now.job) c.args.kits.items c.in-Ok-run_all.all.items (λ o. o.kits.items) c.finish.result
    c.in-Ok-run_all.ensures.ended
    c.finish.ensures.kits c.finish.ensures.none

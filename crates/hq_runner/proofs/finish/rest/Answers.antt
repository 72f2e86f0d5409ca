use Rattle.std.proofs.Common.{subst}
use Rattle.hq_hall.specs.Histories.{Refused}
use Rattle.hq_hall.specs.View.{job_of}
use Rattle.hq_job.specs.Plan.{plan}
use Rattle.hq_machine.proofs.Releases.{possible_rest}
use Rattle.hq_machine.specs.Enabled.{Possible}
use Rattle.hq_model.specs.Journal.Coarse.{Rest}
use Rattle.hq_model.specs.Theorems.{Valid}
use Rattle.hq_runner.proofs.finish.rest.Goals as goal

pub unreachable-requires : goal.unreachable-requires
unreachable-requires c =
    let hall = c.args.hall.now in
    let valid : Valid (job_of hall) = subst (λ j. Valid (plan j)) c.job.ensures c.valid.ensures.valid in
    subst (λ f. Refused (Possible (job_of hall) hall.state Rest) f) c.in-Err-NotEnabled.field-0-is c.in-Err-NotEnabled.ensures.fault
    (possible_rest (job_of hall) hall.state valid c.run_so_far.ensures.run.is)

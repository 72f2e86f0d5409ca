use Rattle.std.proofs.Common.{◌↔◌, sym, subst}
use Rattle.hq_job.specs.Plan.{plan}
use Rattle.hq_model.specs.Job.{Packet}
use Rattle.hq_model.specs.Machine.{WaitOver}
use Rattle.hq_events.specs.Waits.{Over}
use Rattle.hq_events.proofs.Observed.{over_waits}
use Rattle.hq_events.proofs.waiting.wait_is_over.Goals as goal

pub returns : goal.returns
returns c state same =
    let job = plan c.args.job.now in
    let row = c.args.observed.now in
    let waits = subst (λ (x : Packet). Over x.kind x.deps row ↔ WaitOver job state c.args.number) (sym c.packet.ensures) (over_waits job state c.args.number row c.requires same) in
    (λ t. waits.0 (c.is_over.ensures.0 t), λ over. c.is_over.ensures.1 (waits.1 over))

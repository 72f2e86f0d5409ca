use Rattle.std.proofs.Common.{sym, subst}
use Rattle.hq_job.specs.Plan.{plan}
use Rattle.hq_model.specs.Journal.Coarse.{Rest}
use Rattle.hq_machine.proofs.Releases.{applied_rest, possible_rest}
use Rattle.hq_machine.specs.Changes.{Applied}
use Rattle.hq_machine.proofs.state.State.rest.Goals as goal

pub returns-in-Ok-clause-ok : goal.returns-in-Ok-clause-ok
returns-in-Ok-clause-ok c =
    let job = plan c.args.job.now in
    let v = c.args.self.now in
    subst (Applied job v Rest) (sym c.set_copies.ensures) (applied_rest job v c.in-Ok.copies c.valid.ensures.valid c.requires c.in-Ok.ensures.ok)

pub returns-in-Err-clause-fault : goal.returns-in-Err-clause-fault
returns-in-Err-clause-fault c = possible_rest (plan c.args.job.now) c.args.self.now c.valid.ensures.valid c.requires

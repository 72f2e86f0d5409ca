use Rattle.std.proofs.Common.{sym, ◌∙◌}
use Rattle.std.proofs.lemmas.Bool.{true≢false}
use Rattle.hq_job.specs.Plan.{plan}
use Rattle.hq_model.specs.Journal.Coarse.{Deliver}
use Rattle.hq_machine.proofs.EachEntry.{no_memory, no_memory_within}
use Rattle.hq_machine.proofs.EachStore.{deliver_needs, deliver_possible}
use Rattle.hq_machine.proofs.state.State.deliver_entries.Goals as goal

pub returns-then-not-may_deliver-clause-fault : goal.returns-then-not-may_deliver-clause-fault
returns-then-not-may_deliver-clause-fault c = λ possible. true≢false (sym (c.may_deliver.ensures.1 (deliver_needs (plan c.args.job.now) c.args.self.now c.args.packet possible)) ∙ c.if-not-may_deliver.true)

pub deliver_bytes-requires-clause-may : goal.deliver_bytes-requires-clause-may
deliver_bytes-requires-clause-may c = c.may_deliver.ensures.0 c.if-not-may_deliver.false

pub returns-in_err-bytes-clause-fault : goal.returns-in_err-bytes-clause-fault
returns-in_err-bytes-clause-fault c =
    let job = plan c.args.job.now in
    no_memory job c.args.self.now (Deliver c.args.packet) c.from_residual.result (deliver_possible job c.args.self.now c.args.packet c.valid.ensures.valid c.requires.is c.requires.packet (c.may_deliver.ensures.0 c.if-not-may_deliver.false) c.requires.some) c.from_residual.ensures.1

pub returns-in_err-deliver_bytes-clause-fault : goal.returns-in_err-deliver_bytes-clause-fault
returns-in_err-deliver_bytes-clause-fault c =
    let job = plan c.args.job.now in
    no_memory_within job c.args.self.now (Deliver c.args.packet) c.from_residual-in_err-deliver_bytes.result c.in_err-deliver_bytes.field-0.0 (deliver_possible job c.args.self.now c.args.packet c.valid.ensures.valid c.requires.is c.requires.packet (c.may_deliver.ensures.0 c.if-not-may_deliver.false) c.requires.some) c.in_err-deliver_bytes.ensures.memory c.from_residual-in_err-deliver_bytes.ensures.1

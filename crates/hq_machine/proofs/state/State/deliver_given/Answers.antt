use Rattle.std.proofs.Common.{length, ap, sym, subst, ◌∙◌}
use Rattle.hq_footprint.specs.Tasks.{Suits}
use Rattle.hq_model.specs.Job.{packet}
use Rattle.std.proofs.lemmas.Bool.{true≢false}
use Rattle.hq_job.specs.Plan.{plan}
use Rattle.hq_machine.specs.View.{state_of}
use Rattle.hq_model.specs.Journal.Coarse.{Deliver}
use Rattle.hq_machine.proofs.EachEntry.{no_memory, no_memory_within}
use Rattle.hq_machine.proofs.EachStore.{deliver_needs, deliver_possible}
use Rattle.hq_machine.proofs.StoreMoves.{bytes_count}
use Rattle.hq_machine.proofs.state.State.deliver_given.Goals as goal

pub returns-then-not-may_deliver-clause-fault : goal.returns-then-not-may_deliver-clause-fault
returns-then-not-may_deliver-clause-fault c = λ possible. true≢false (sym (c.may_deliver.ensures.1 (deliver_needs (plan c.args.job.now) c.args.self.now c.args.packet possible)) ∙ c.if-not-may_deliver.true)

pub deliver_bytes-requires-clause-may : goal.deliver_bytes-requires-clause-may
deliver_bytes-requires-clause-may c = c.may_deliver.ensures.0 c.if-not-may_deliver.false

pub returns-in_err-bytes-clause-fault : goal.returns-in_err-bytes-clause-fault
returns-in_err-bytes-clause-fault c =
    let job = plan c.args.job.now in
    no_memory job c.args.self.now (Deliver c.args.packet) c.from_residual.result (deliver_possible job c.args.self.now c.args.packet c.valid.ensures.valid c.requires.is c.requires.packet (c.may_deliver.ensures.0 c.if-not-may_deliver.false) c.requires.some) c.from_residual.ensures.1

pub returns-in_err-deliver_bytes-clause-fault : goal.returns-in_err-deliver_bytes-clause-fault
returns-in_err-deliver_bytes-clause-fault c =
    let job = plan c.args.job.now in
    no_memory_within job c.args.self.now (Deliver c.args.packet) c.from_residual-in_err-deliver_bytes.result c.in_err-deliver_bytes.field-0.0 (deliver_possible job c.args.self.now c.args.packet c.valid.ensures.valid c.requires.is c.requires.packet (c.may_deliver.ensures.0 c.if-not-may_deliver.false) c.requires.some) c.in_err-deliver_bytes.ensures.memory c.from_residual-in_err-deliver_bytes.ensures.1

pub deliver_bytes-requires-clause-bytes : goal.deliver_bytes-requires-clause-bytes
deliver_bytes-requires-clause-bytes c = c.in_ok-bytes.ensures.items ∙ c.requires.bytes (c.may_deliver.ensures.0 c.if-not-may_deliver.false)

pub deliver_bytes-requires-clause-count : goal.deliver_bytes-requires-clause-count
deliver_bytes-requires-clause-count c =
    let job = plan c.args.job.now in
    let p = c.args.packet in
    let suits = subst (λ t. Suits t (length (packet job p).reads) (length (packet job p).writes)) c.task_of-task.ensures.is c.task_of-task.ensures.suits in
    ap length (c.in_ok-bytes.ensures.items ∙ c.requires.bytes (c.may_deliver.ensures.0 c.if-not-may_deliver.false)) ∙ bytes_count job (state_of job c.args.self.now) p suits

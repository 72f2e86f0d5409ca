use Rattle.std.proofs.Common.{arith, ◌<◌, IfSome, length, refl, sym, ◌∙◌, ap, subst}
use Rattle.std.proofs.lemmas.Bool.{true≢false}
use Rattle.hq_job.specs.Plan.{plan}
use Rattle.hq_model.specs.Job.{packet}
use Rattle.hq_model.specs.Journal.{Coarse}
use Rattle.hq_model.specs.Machine.Phase.{Complete}
use Rattle.hq_machine.proofs.EachEntry.{no_memory_within}
use Rattle.hq_machine.proofs.FenceBacks.{reached, written}
use Rattle.hq_machine.proofs.Releases.{applied_complete, possible_complete, not_worked}
use Rattle.hq_machine.specs.Changes.{Applied, in_phase, with_decrement, with_copies}
use Rattle.hq_machine.specs.State.{StateValue}
use Rattle.hq_machine.proofs.state.State.complete.Goals as goal

pub returns-then-not-is_worked-clause-fault : goal.returns-then-not-is_worked-clause-fault
returns-then-not-is_worked-clause-fault c = not_worked (plan c.args.job.now) c.args.self.now c.args.packet (λ worked. true≢false (sym (c.is_worked.ensures.1 worked) ∙ c.if-not-is_worked.true))

pub returns-in_err-write_back-clause-fault : goal.returns-in_err-write_back-clause-fault
returns-in_err-write_back-clause-fault c =
    let job = plan c.args.job.now in
    let v = c.args.self.now in
    let p = c.args.packet in
    let signal = c.done_of-done.ensures in
    let below = subst (λ n. IfSome c.done_of-done.result (λ s. s < n)) (sym c.requires.lengths.signals) signal.there in
    let there = subst (λ d. IfSome d (λ s. s < length v.signals)) signal.is below in
    let worked = c.is_worked.ensures.0 c.if-not-is_worked.false in
    let of = c.queue_of-numbers.ensures in
    let r = reached job p c.queue_of-numbers.result.start c.queue_of-numbers.result.end (packet job p).release c.valid.ensures.valid worked.is_packet of.are (omega (arith, of.from, of.to)) of.within refl in
    no_memory_within job v (Coarse.Complete p) c.from_residual.result c.in_err-write_back.field-0.0 (possible_complete job v p r.lane r.lanes r.agent r.agents c.valid.ensures.valid c.requires worked there r.of r.on) c.in_err-write_back.ensures.memory c.from_residual.ensures.1

pub returns-clause-ok : goal.returns-clause-ok
returns-clause-ok c =
    let job = plan c.args.job.now in
    let v = c.args.self.now in
    let p = c.args.packet in
    let signal = c.done_of-done.ensures in
    let below = subst (λ n. IfSome c.done_of-done.result (λ s. s < n)) (sym c.requires.lengths.signals) signal.there in
    let there = subst (λ d. IfSome d (λ s. s < length v.signals)) signal.is below in
    let worked = c.is_worked.ensures.0 c.if-not-is_worked.false in
    let of = c.queue_of-numbers.ensures in
    let back = c.in_ok-write_back.ensures.ok in
    let r = reached job p c.queue_of-numbers.result.start c.queue_of-numbers.result.end (packet job p).release c.valid.ensures.valid worked.is_packet of.are (omega (arith, of.from, of.to)) of.within refl in
    subst (Applied job v (Coarse.Complete p))
    (sym (c.set_phase.ensures ∙ ap (λ (x : StateValue). in_phase x p Complete) (c.decrement.ensures ∙ ap (λ (x : StateValue). with_decrement x c.done_of-done.result) back.state ∙ ap (with_decrement (with_copies v back.copies)) signal.is)))
    (applied_complete job v p r.lane r.lanes r.agent r.agents back.copies c.valid.ensures.valid c.requires worked there r.of r.on
    (written job v p c.queue_of-numbers.result.start c.queue_of-numbers.result.end back.copies (packet job p).release c.valid.ensures.valid c.requires worked.is_packet of.are (omega (arith, of.from, of.to)) of.within refl back.released))

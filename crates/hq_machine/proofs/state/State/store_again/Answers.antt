use Rattle.std.proofs.Common.{ℕ, List, length, slice_index, refl, ap, sym, ◌∙◌, subst, arith}
use Rattle.hq_footprint.specs.Tasks.{Suits}
use Rattle.hq_job.specs.Plan.{plan}
use Rattle.hq_model.specs.Job.{packet}
use Rattle.hq_model.specs.Machine.Event.{Store}
use Rattle.hq_machine.proofs.StoreMoves.{moved_store, next_again, bytes_count}
use Rattle.hq_machine.specs.Changes.{Moved, with_stores, with_byte_stored}
use Rattle.hq_machine.specs.State.{StateValue}
use Rattle.hq_machine.specs.View.{state_of, stores_of}
use Rattle.hq_machine.proofs.state.State.store_again.Goals as goal

pub byte_to_store-value-requires-clause-entry : goal.byte_to_store-value-requires-clause-entry
byte_to_store-value-requires-clause-entry c =
    let job = plan c.args.job.now in
    let p = c.args.packet in
    let suits = subst (λ t. Suits t (length (packet job p).reads) (length (packet job p).writes)) c.task_of-task.ensures.is c.task_of-task.ensures.suits in
    let count = bytes_count job (state_of job c.args.self.now) p suits in
    let same = ap length ((c.requires.is.stores p c.requires.may.is_packet).bytes c.requires.some) in
    let few = c.requires.may.few in
    omega arith

pub returns-clause-ok : goal.returns-clause-ok
returns-clause-ok c =
    let job = plan c.args.job.now in
    let v = c.args.self.now in
    let p = c.args.packet in
    let i = c.args.entry in
    let bytes = (c.requires.is.stores p c.requires.may.is_packet).bytes c.requires.some in
    subst (Moved job v (Store p i)) (sym (c.mark_stored.ensures ∙ ap (λ (x : StateValue). with_stores x p (with_byte_stored (stores_of x p) i) x.copies) c.in_ok-write.ensures.ok))
    (moved_store job v p i (slice_index (packet job p).writes i) c.byte_to_store-value.result (with_byte_stored (stores_of v p) i) c.valid.ensures.valid c.requires.is c.requires.may (next_again job v p i c.requires.is c.requires.may c.requires.some) refl (c.byte_to_store-value.ensures ∙ ap (λ (bs : List ℕ). slice_index bs i) bytes))

use Rattle.std.proofs.Common.{ℕ, List, slice_index, refl, ap, sym, ◌∙◌, subst}
use Rattle.hq_job.specs.Plan.{plan}
use Rattle.hq_model.specs.Job.{packet}
use Rattle.hq_model.specs.Machine.Event.{Store}
use Rattle.hq_machine.proofs.StoreMoves.{moved_store}
use Rattle.hq_machine.specs.Changes.{Moved, with_stores}
use Rattle.hq_machine.specs.State.{StateValue}
use Rattle.hq_machine.proofs.state.State.store_first.Goals as goal

pub returns-clause-ok : goal.returns-clause-ok
returns-clause-ok c =
    let job = plan c.args.job.now in
    let v = c.args.self.now in
    let p = c.args.packet in
    let i = c.args.entry in
    let s = c.in_ok-stores.stores in
    let next = c.in_ok-stores.ensures.next in
    subst (Moved job v (Store p i)) (sym (c.put_stores.ensures ∙ ap (λ (x : StateValue). with_stores x p s x.copies) c.in_ok-write.ensures.ok))
    (moved_store job v p i (slice_index (packet job p).writes i) c.byte-value.result s c.valid.ensures.valid c.requires.is c.requires.may next refl (c.byte-value.ensures ∙ ap (λ (bs : List ℕ). slice_index bs i) next.bytes))

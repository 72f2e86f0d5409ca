use Rattle.std.proofs.Common.{◌≡◌, length, replicate, true, sym, ◌∙◌, ap, ap₂, subst}
use Rattle.hq_job.specs.Plan.{plan}
use Rattle.hq_model.specs.Journal.Coarse.{Deliver}
use Rattle.hq_copies.specs.Copies.{CopiesValue, stored_run}
use Rattle.hq_events.specs.Rows.{StoresValue}
use Rattle.hq_machine.proofs.Delivered.{delivered_all}
use Rattle.hq_machine.specs.Changes.{Applied, with_stores}
use Rattle.hq_machine.specs.State.{StateValue}
use Rattle.hq_machine.proofs.state.State.deliver_bytes.Goals as goal

pub returns-in-Ok-clause-ok : goal.returns-in-Ok-clause-ok
returns-in-Ok-clause-ok c =
    let job = plan c.args.job.now in
    let v = c.args.self.now in
    let p = c.args.packet in
    let first = c.first_write-first.result in
    let items = c.args.bytes.items in
    let whole : StoresValue = record { bytes = items; stored = replicate (length items) true } in
    let stores : c.whole-stores.result ≡ whole = c.whole-stores.ensures in
    let copies : c.self.inside.copies ≡ v.copies = ap (λ (x : StateValue). x.copies) c.self.view_is in
    let given = c.bytes.ensures ∙ ap (λ (s : StoresValue). s.bytes) stores in
    let run : c.store_run.new.self ≡ stored_run v.copies p first items = c.in-Ok.ensures.ok ∙ ap₂ (λ (x : CopiesValue) bs. stored_run x p first bs) copies given in
    let new : c.put_stores.new.self ≡ with_stores v p whole (stored_run v.copies p first items) =
    c.put_stores.ensures
    ∙ ap (λ (x : StateValue). with_stores x p c.whole-stores.result c.store_run.new.self) c.self.view_is
    ∙ ap₂ (λ (s : StoresValue) (k : CopiesValue). with_stores v p s k) stores run in
    subst (Applied job v (Deliver p)) (sym new)
    (delivered_all job v p first items c.valid.ensures.valid c.requires.is c.requires.packet c.requires.may c.requires.some c.requires.bytes c.requires.count c.first_write-first.ensures.at)

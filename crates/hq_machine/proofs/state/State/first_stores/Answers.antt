use Rattle.std.proofs.Common.{false, length, ap, sym, ◌∙◌, subst, arith}
use Rattle.std.proofs.lemmas.List.{length-replicate}
use Rattle.hq_job.specs.Plan.{plan}
use Rattle.hq_events.specs.Rows.{StoresValue}
use Rattle.hq_machine.proofs.StoreMoves.{next_first}
use Rattle.hq_machine.specs.Changes.{NextStores, with_byte_stored}
use Rattle.hq_machine.proofs.state.State.first_stores.Goals as goal

pub set-requires-clause-there : goal.set-requires-clause-there
set-requires-clause-there c =
    let e = ap (λ (s : StoresValue). length s.stored) c.in_ok-stores.ensures ∙ length-replicate (length c.in_ok-bytes.bytes.items) false in
    let n = c.in_ok-bytes.ensures.count in
    let few = c.requires.may.few in
    omega arith

pub returns-clause-next : goal.returns-clause-next
returns-clause-next c =
    let job = plan c.args.job.now in
    subst (NextStores job c.args.self.now c.args.packet c.args.entry) (sym (c.set.ensures ∙ ap (λ (s : StoresValue). with_byte_stored s c.args.entry) c.in_ok-stores.ensures))
    (next_first job c.args.self.now c.args.packet c.args.entry c.in_ok-bytes.bytes.items c.in_ok-bytes.ensures.bytes c.in_ok-bytes.ensures.count c.requires.may.few c.requires.none)

pub returns-clause-room : goal.returns-clause-room
returns-clause-room c =
    let e = ap (λ (s : StoresValue). length s.bytes) (c.set.ensures ∙ ap (λ (s : StoresValue). with_byte_stored s c.args.entry) c.in_ok-stores.ensures) in
    let n = c.in_ok-bytes.ensures.count in
    let few = c.requires.may.few in
    omega arith

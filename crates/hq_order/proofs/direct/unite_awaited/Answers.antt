use Rattle.std.proofs.Common.{◌≡◌, ◌↔◌, ◌/◌, ◌<◌, inl, inr, length, sym, ◌∙◌, ap, subst, arith, IsTrue, Some, None}
use Rattle.std.proofs.lemmas.Option.{get_or_from_slice_get}
use Rattle.hq_job.specs.Plan.{plan}
use Rattle.hq_tables.specs.Kinds.{kind_of}
use Rattle.hq_bits.specs.Bits.{has}
use Rattle.hq_waits.specs.Waits.{Completing}
use Rattle.hq_order.specs.Rounds.{Awaits}
use Rattle.hq_rows.proofs.Lists.{all_rows}
use Rattle.hq_rows.proofs.Rows.{given_back}
use Rattle.hq_bits.proofs.Words.{joined}
use Rattle.hq_order.proofs.Single.{few, count, awaits_and}
use Rattle.hq_waits.proofs.Slots.{signal_there}
use Rattle.hq_order.proofs.Turns.{awaits_shared}
use Rattle.hq_order.proofs.direct.unite_awaited.Goals as goal

pub meet_each-requires-clause-low : goal.meet_each-requires-clause-low
meet_each-requires-clause-low c = λ slot s there.
    let slots = c.packet-placed.result.now.slots in
    omega (arith, c.requires.signals, signal_there c.args.job.now c.args.r slot s slots c.valid.ensures.packets (few c.args.job.now c.args.r c.requires.r_is) (ap (λ q. q.deps) c.packet-placed.ensures) (get_or_from_slice_get slots slot (Some s) None there))

pub meet_each-requires-clause-width : goal.meet_each-requires-clause-width
meet_each-requires-clause-width c = λ s l.
    (all_rows (λ s items. Completing (plan c.args.job.now) s items × (length items ≡ length c.args.row.now)) c.args.completing.now s c.requires.completing l).1
    ∙ sym (ap length c.deref_mut.ensures.value ∙ c.in_ok-shared-in-Or.ensures.len)

pub returns-in-And : goal.returns-in-And
returns-in-And c = λ p.
    let kind = sym (ap (λ q. q.kind) c.packet-placed.ensures) ∙ ap kind_of c.in-And.is in
    let e = awaits_and (plan c.args.job.now) p c.args.r kind in
    let taken = c.unite_dependencies.ensures.taken p in (
      λ h. elim (taken.0 h) [ inl o ↦ inl o | inr d ↦ inr (e.0 d) ],
      λ t. taken.1 (elim t [ inl o ↦ inl o | inr a ↦ inr (e.1 a) ]),
    )

pub returns-in_ok-shared-in-Or : goal.returns-in_ok-shared-in-Or
returns-in_ok-shared-in-Or c = λ p.
    let job = plan c.args.job.now in
    let words = length c.args.row.now in
    let slots = c.packet-placed.result.now.slots in
    let back = given_back c.in_ok-shared-in-Or.shared.len c.in_ok-shared-in-Or.shared.items c.meet_each.new.shared (sym c.in_ok-shared-in-Or.shared.ok.0) (c.meet_each.auto.shared ∙ ap length c.deref_mut.ensures.value) in
    let full = subst (λ row. IsTrue (has row p) ↔ p / 64 < words) (sym c.deref_mut.ensures.value) (c.in_ok-shared-in-Or.ensures.all p) in
    let exact = awaits_shared job c.args.completing.now words p c.args.r c.packet-placed.result.now (IsTrue (has c.deref_mut.result.now p)) (IsTrue (has c.meet_each.new.shared p))
    (record { is_packet = c.requires.r_is; same = c.packet-placed.ensures }) c.valid.ensures.valid (ap kind_of c.in-Or.is) (omega (arith, c.requires.room, count c.args.job.now)) c.requires.completing
    (λ slot s there. omega (arith, c.requires.signals, signal_there c.args.job.now c.args.r slot s slots c.valid.ensures.packets (few c.args.job.now c.args.r c.requires.r_is) (ap (λ q. q.deps) c.packet-placed.ensures) (get_or_from_slice_get slots slot (Some s) None there)))
    full (c.meet_each.ensures p) in
    joined (has c.args.row.now p) (has c.deref.result.now p) (has c.unite.new.row p) (Awaits job p c.args.r) (c.unite.ensures.exact p)
    (subst (λ row. IsTrue (has row p) ↔ Awaits job p c.args.r) (sym (c.deref.ensures.value ∙ back)) exact)

use Rattle.std.proofs.Common.{◌≡◌, ◌<◌, inl, inr, ℕ, ap, subst, length, arith, slice_index_or, sym, ◌∙◌, IsTrue, None, Some}
use Rattle.hq_job.specs.Plan.{plan}
use Rattle.hq_model.specs.Job.{Dependency, Decrements}
use Rattle.hq_bits.specs.Bits.{has}
use Rattle.hq_waits.specs.Waits.{Completing}
use Rattle.hq_rows.proofs.Lists.{one_is}
use Rattle.hq_rows.proofs.Filling.{gathered_in, gathered_out, united}
use Rattle.hq_waits.proofs.Slots.{slot_is, slot_of, slot_low, signal_there}
use Rattle.hq_waits.proofs.depending.unite_dependencies.Goals as goal
use Rattle.hq_waits.proofs.depending.unite_dependencies.Goals.{in-Some, in_default}

pub bounds-completing-signal : goal.bounds-completing-signal
bounds-completing-signal c = omega (arith, c.requires.count, signal_there c.args.job.now c.args.number c.loop-slot.slot-index c.in-Some.signal c.slots-slot-items.result.now c.valid.ensures.packets c.requires.number c.slots-slot-items.ensures c.in-Some.is)

pub unite-requires : goal.unite-requires
unite-requires c =
    let low : c.in-Some.signal < length c.args.completing.now = omega (arith, c.requires.count, signal_there c.args.job.now c.args.number c.loop-slot.slot-index c.in-Some.signal c.slots-slot-items.result.now c.valid.ensures.packets c.requires.number c.slots-slot-items.ensures c.in-Some.is) in
    let row = one_is (λ s set. Completing (plan c.args.job.now) s set.items × (length set.items ≡ length c.args.row.now)) c.args.completing.now c.in-Some.signal c.index-completing-signal.result c.requires.completing low c.index-completing-signal.is in
    c.loop-slot.invariant.len ∙ sym row.1 ∙ ap length (sym c.deref.ensures.value)

pub loop-slot-preserved : goal.loop-slot-preserved
loop-slot-preserved c =
    let P : ℕ → ℕ → Type 0 = λ slot e. (s : ℕ) × Dependency (plan c.args.job.now) c.args.number slot s × Decrements (plan c.args.job.now) e s in
    elim c.match-slot.branch [
      | in-Some w ↦
          let low : w.in-Some.signal < length c.args.completing.now = omega (arith, c.requires.count, signal_there c.args.job.now c.args.number c.loop-slot.slot-index w.in-Some.signal c.slots-slot-items.result.now c.valid.ensures.packets c.requires.number c.slots-slot-items.ensures w.in-Some.is) in
          let row = one_is (λ s set. Completing (plan c.args.job.now) s set.items × (length set.items ≡ length c.args.row.now)) c.args.completing.now w.in-Some.signal w.index-completing-signal.result c.requires.completing low w.index-completing-signal.is in
          rw w.row-is (gathered_in P c.args.row.now c.loop-slot.slot-index c.loop-slot.row w.unite.new.row c.loop-slot.invariant
          (united (P c.loop-slot.slot-index) c.loop-slot.row w.deref.result.now w.unite.new.row w.unite.ensures.exact (λ e. (
            λ h. (w.in-Some.signal, slot_is c.args.job.now c.args.number c.loop-slot.slot-index w.in-Some.signal c.slots-slot-items.result.now c.requires.number c.slots-slot-items.ensures w.in-Some.is, (row.0.are e).0 (subst (λ r. IsTrue (has r e)) w.deref.ensures.value h)),
            λ h. let (s, d, f) = h in
                let k : slice_index_or c.slots-slot-items.result.now c.loop-slot.slot-index None ≡ Some s = slot_of c.args.job.now c.args.number c.loop-slot.slot-index s c.slots-slot-items.result.now c.slots-slot-items.ensures d in
                let g : slice_index_or c.slots-slot-items.result.now c.loop-slot.slot-index None ≡ Some w.in-Some.signal = w.in-Some.is in
                let same : s ≡ w.in-Some.signal = cc (k, g) in
                subst (λ r. IsTrue (has r e)) (sym w.deref.ensures.value) ((row.0.are e).1 (subst (λ t. Decrements (plan c.args.job.now) e t) same f)),
          )))
          w.unite.auto.row)
      | in_default w ↦ rw w.row-is (gathered_out P c.args.row.now c.loop-slot.slot-index c.loop-slot.row c.loop-slot.invariant
          (λ e h. w.in_default.not-Some h.0 (slot_of c.args.job.now c.args.number c.loop-slot.slot-index h.0 c.slots-slot-items.result.now c.slots-slot-items.ensures h.1)))
    ]

pub returns-clause-taken : goal.returns-clause-taken
returns-clause-taken c = λ e. (
  λ h. elim ((c.loop-slot.invariant.are e).0 h) [ inl t ↦ inl t | inr b ↦ inr (b.0, b.2.0, b.2.1, b.2.2) ],
  λ h. (c.loop-slot.invariant.are e).1 (elim h [
    | inl t ↦ inl t
    | inr b ↦ inr (b.0, omega (arith, c.loop-slot-test.false, slot_low c.args.job.now c.args.number b.0 b.1 c.slots-slot-items.result.now c.slots-slot-items.ensures b.2), (b.1, b.2, b.3))
  ]),
)

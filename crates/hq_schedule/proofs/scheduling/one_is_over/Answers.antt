use Rattle.std.proofs.Common.{◌≡◌, subst, arith, slice_index_or, sym, IsTrue, false, None, Some, inl, inr, refl}
use Rattle.std.proofs.lemmas.Bool.{cases_eq}
use Rattle.hq_job.specs.Plan.{plan}
use Rattle.hq_schedule.specs.Placing.{IsOver}
use Rattle.hq_waits.proofs.Slots.{slot_is, slot_of, slot_low, signal_there}
use Rattle.hq_schedule.proofs.scheduling.one_is_over.Goals as goal
use Rattle.hq_schedule.proofs.scheduling.one_is_over.Goals.{in-Some+else-is_over, in_default}

pub is_over-requires-clause-low : goal.is_over-requires-clause-low
is_over-requires-clause-low c = omega (arith, c.requires.count, signal_there c.args.job.now c.args.number c.loop-slot.slot-index c.in-Some.signal c.slots-slot-items.result.now c.valid.ensures.packets c.requires.number c.slots-slot-items.ensures c.in-Some.is)

pub returns-then-is_over : goal.returns-then-is_over
returns-then-is_over c = (
  λ t. (c.loop-slot.slot-index, c.in-Some.signal, slot_is c.args.job.now c.args.number c.loop-slot.slot-index c.in-Some.signal c.slots-slot-items.result.now c.requires.number c.slots-slot-items.ensures c.in-Some.is, c.is_over.ensures.0 c.if-is_over.true),
  λ h. refl,
)

pub loop-slot-preserved : goal.loop-slot-preserved
loop-slot-preserved c = λ slot s low_slot d over. elim (cases_eq slot c.loop-slot.slot-index) [
  | inr apart ↦ c.loop-slot.invariant slot s (omega (arith, low_slot, apart)) d over
  | inl here ↦
      let k : slice_index_or c.slots-slot-items.result.now c.loop-slot.slot-index None ≡ Some s = subst (λ i. slice_index_or c.slots-slot-items.result.now i None ≡ Some s) here (slot_of c.args.job.now c.args.number slot s c.slots-slot-items.result.now c.slots-slot-items.ensures d) in
      elim c.match-slot.branch [
        | in-Some+else-is_over w ↦
            let g : slice_index_or c.slots-slot-items.result.now c.loop-slot.slot-index None ≡ Some w.in-Some.signal = w.in-Some.is in
            let same : w.in-Some.signal ≡ s = cc (k, g) in
            let t : IsTrue w.is_over.result = w.is_over.ensures.1 (subst (IsOver (plan c.args.job.now) c.args.come.now) (sym same) over) in
            let no : w.is_over.result ≡ false = w.if-is_over.false in
            let never : ⊥ = cc in absurd never
        | in_default w ↦ absurd (w.in_default.not-Some s k)
      ]
]

pub returns : goal.returns
returns c = (λ t. let never : ⊥ = cc in absurd never, λ h. absurd (c.loop-slot.invariant h.0 h.1 (omega (arith, c.loop-slot-test.false, slot_low c.args.job.now c.args.number h.0 h.1 c.slots-slot-items.result.now c.slots-slot-items.ensures h.2)) h.2 h.3))

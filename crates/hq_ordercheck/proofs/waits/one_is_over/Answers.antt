use Rattle.std.proofs.Common.{◌≡◌, ℕ, arith, refl, sym, ◌∙◌, None, Some, slice_index_or}
use Rattle.std.proofs.lemmas.Grind.{common_steps}
use Rattle.hq_job.specs.Plan.{plan}
use Rattle.hq_model.specs.Job.{IsPacket}
use Rattle.hq_ordercheck.specs.Placed.{IsOverBefore}
use Rattle.hq_ordercheck.proofs.Slots.{slot_says, slots_more, slot_within, is_not_so}
use Rattle.hq_ordercheck.proofs.waits.one_is_over.Goals as goal
use Rattle.hq_ordercheck.proofs.waits.one_is_over.Goals.{in-Some+else-is_over, in_default}

pub slots-slot-items-requires : goal.slots-slot-items-requires
slots-slot-items-requires c = grind (arith, common_steps)

pub returns-then-is_over : goal.returns-then-is_over
returns-then-is_over c =
    let is : IsPacket (plan c.args.job.now) c.args.r = grind (arith, common_steps) in
    (λ _. (c.loop-slot.slot-index, c.in-Some.signal, slot_says (plan c.args.job.now) c.args.r c.slots-slot-items.result.now c.slots-slot-items.ensures c.loop-slot.slot-index c.in-Some.signal is c.loop-slot-test.true c.in-Some.is, c.is_over.ensures.0 c.if-is_over.true), λ _. refl)

pub loop-slot-preserved : goal.loop-slot-preserved
loop-slot-preserved c =
    let here : (s : ℕ) → slice_index_or c.slots-slot-items.result.now c.loop-slot.slot-index None ≡ Some s → IsOverBefore (plan c.args.job.now) c.args.places.now s c.args.r → ⊥ = λ s e. elim c.match-slot.branch [
      | in-Some+else-is_over w ↦ is_not_so (λ t. IsOverBefore (plan c.args.job.now) c.args.places.now t c.args.r) w.is_over.result w.in-Some.signal s w.if-is_over.false w.is_over.ensures (sym w.in-Some.is ∙ e)
      | in_default w ↦ absurd (w.in_default.not-Some s e)
    ] in
    slots_more (plan c.args.job.now) c.args.r c.slots-slot-items.result.now c.slots-slot-items.ensures (λ s. IsOverBefore (plan c.args.job.now) c.args.places.now s c.args.r → ⊥) c.loop-slot.slot-index c.loop-slot.invariant here

pub returns : goal.returns
returns c = (λ t. absurd (cc), λ o. absurd (c.loop-slot.invariant o.0 o.1 (omega (arith, slot_within (plan c.args.job.now) c.args.r c.slots-slot-items.result.now c.slots-slot-items.ensures o.0 o.1 o.2)) o.2 o.3))

use Rattle.std.proofs.Common.{◌≡◌, ℕ, arith, refl, sym, ◌∙◌, None, Some, slice_index_or}
use Rattle.std.proofs.lemmas.Grind.{common_steps}
use Rattle.std.proofs.lemmas.Bool.{false≢true}
use Rattle.hq_job.specs.Plan.{plan}
use Rattle.hq_model.specs.Job.{IsPacket}
use Rattle.hq_ordercheck.specs.Placed.{IsOverBefore}
use Rattle.hq_ordercheck.proofs.Slots.{slot_says, slots_more, slot_within, is_so}
use Rattle.hq_ordercheck.proofs.waits.all_are_over.Goals as goal
use Rattle.hq_ordercheck.proofs.waits.all_are_over.Goals.{in-Some+else-not-is_over, in_default}

pub slots-slot-items-requires : goal.slots-slot-items-requires
slots-slot-items-requires c = grind (arith, common_steps)

pub returns-then-not-is_over : goal.returns-then-not-is_over
returns-then-not-is_over c =
    let is : IsPacket (plan c.args.job.now) c.args.r = grind (arith, common_steps) in
    (λ t. absurd (false≢true t), λ all. absurd (false≢true (sym c.if-not-is_over.true ∙ c.is_over.ensures.1 (all c.loop-slot.slot-index c.in-Some.signal (slot_says (plan c.args.job.now) c.args.r c.slots-slot-items.result.now c.slots-slot-items.ensures c.loop-slot.slot-index c.in-Some.signal is c.loop-slot-test.true c.in-Some.is)))))

pub loop-slot-preserved : goal.loop-slot-preserved
loop-slot-preserved c =
    let here : (s : ℕ) → slice_index_or c.slots-slot-items.result.now c.loop-slot.slot-index None ≡ Some s → IsOverBefore (plan c.args.job.now) c.args.places.now s c.args.r = λ s e. elim c.match-slot.branch [
      | in-Some+else-not-is_over w ↦ is_so (λ t. IsOverBefore (plan c.args.job.now) c.args.places.now t c.args.r) w.is_over.result w.in-Some.signal s w.if-not-is_over.false w.is_over.ensures (sym w.in-Some.is ∙ e)
      | in_default w ↦ absurd (w.in_default.not-Some s e)
    ] in
    slots_more (plan c.args.job.now) c.args.r c.slots-slot-items.result.now c.slots-slot-items.ensures (λ s. IsOverBefore (plan c.args.job.now) c.args.places.now s c.args.r) c.loop-slot.slot-index c.loop-slot.invariant here

pub returns : goal.returns
returns c = (λ _ slot s d. c.loop-slot.invariant slot s (omega (arith, slot_within (plan c.args.job.now) c.args.r c.slots-slot-items.result.now c.slots-slot-items.ensures slot s d)) d, λ _. refl)

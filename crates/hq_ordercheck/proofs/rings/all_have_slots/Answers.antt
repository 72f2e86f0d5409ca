use Rattle.std.proofs.Common.{inl, inr, subst, arith}
use Rattle.std.proofs.lemmas.Bool.{cases_eq}
use Rattle.std.proofs.lemmas.Grind.{common_steps}
use Rattle.hq_job.specs.Plan.{plan}
use Rattle.hq_ordercheck.specs.Placed.{HasSlot}
use Rattle.hq_ordercheck.proofs.rings.all_have_slots.Goals as goal

pub loop-m-preserved : goal.loop-m-preserved
loop-m-preserved c = λ m low. elim (cases_eq c.loop-m.m m) [
  | inl same ↦ subst (HasSlot (plan c.args.job.now) c.args.turns.now c.args.places.now) same (c.has_slot.ensures.0 c.if-not-has_slot.false)
  | inr apart ↦ c.loop-m.invariant m (omega (arith, low, apart))
]

pub returns : goal.returns
returns c = grind (arith, common_steps)

use Rattle.std.proofs.Common.{inl, inr, sym, subst, arith, IsTrue}
use Rattle.std.proofs.lemmas.Bool.{cases_lt}
use Rattle.hq_job.specs.Plan.{plan}
use Rattle.hq_bits.specs.Bits.{has}
use Rattle.hq_order.specs.Sweeping.{HasAsked}
use Rattle.hq_order.proofs.Single.{count}
use Rattle.hq_order.proofs.Swept.{has_asked}
use Rattle.hq_order.proofs.sweeping.have_asked.Goals as goal

pub loop-r-preserved : goal.loop-r-preserved
loop-r-preserved c = λ r low. elim (cases_lt r c.loop-r.r) [
  | inl below ↦ c.loop-r.invariant r below
  | inr past ↦ subst (HasAsked (plan c.args.job.now) c.args.rows.now) (omega (arith, low, past))
      (has_asked (plan c.args.job.now) c.args.rows.now c.loop-r.r c.row_of.result.now c.deref.result.now c.in_ok-asked.ensures.together c.row_of.ensures (c.covers.ensures.0 c.if-not-covers.false)
      (λ p a. subst (λ xs. IsTrue (has xs p)) (sym c.deref.ensures.value) (c.in_ok-asked.ensures.asked p a)))
]

pub returns : goal.returns
returns c = λ t r is. c.loop-r.invariant r (omega (arith, c.loop-r-test.false, is, c.requires.square.height, count c.args.job.now))

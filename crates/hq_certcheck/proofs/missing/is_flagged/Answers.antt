use Rattle.std.proofs.Common.{◌≡◌, false, IsTrue, inr}
use Rattle.hq_job.specs.Plan.{plan}
use Rattle.hq_certcheck.proofs.Flagged.{flagged_back}
use Rattle.hq_certcheck.proofs.missing.is_flagged.Goals as goal

pub returns-else-are_flagged : goal.returns-else-are_flagged
returns-else-are_flagged c = (
  λ t kind conflict. inr (c.are_flagged-else-are_flagged.ensures.all.0 t),
  λ h. c.are_flagged-else-are_flagged.ensures.all.1 (flagged_back (plan c.args.job.now) c.args.flags.now c.args.p c.args.r (c.are_flagged.ensures.some c.if-are_flagged.false)
      (λ f. let t : IsTrue c.are_flagged.result = c.are_flagged.ensures.all.1 f in let no : c.are_flagged.result ≡ false = c.if-are_flagged.false in let never : ⊥ = cc in never)
      h),
)

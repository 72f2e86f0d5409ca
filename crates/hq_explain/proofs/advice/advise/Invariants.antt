use Rattle.std.proofs.Common.{◌≡◌, ℕ, length, slice_get, Some}
use Rattle.hq_job.specs.Plan.{plan}
use Rattle.hq_explain.specs.declared.advice.Advice.{Advice}
use Rattle.hq_explain.specs.Advised.{IsAdvice}
use Rattle.hq_explain.specs.Trials.{IsTrial}
use Rattle.hq_explain.proofs.advice.advise.Given as goal

abbrev pub invariant-loop-p : goal.invariant-loop-p
invariant-loop-p l =
    IsTrial (plan l.job) l.trial × (length l.list.items ≡ l.p) × ((k : ℕ) (advice : Advice) → slice_get l.list.items k ≡ Some advice → IsAdvice (plan l.job) l.a l.b k advice)

use Rattle.std.proofs.Common.{subst, sym, ◌∙◌}
use Rattle.hq_job.specs.Plan.{plan}
use Rattle.hq_model.specs.Job.{Decrements}
use Rattle.hq_ordercheck.proofs.Options.{some_same}
use Rattle.hq_certcheck.proofs.lines.by_and.Goals as goal

pub is_and-requires : goal.is_and-requires
is_and-requires c = ((c.dependency.ensures c.in-Some.signal).0 c.in-Some.is).is_packet

pub returns-then-is_and : goal.returns-then-is_and
returns-then-is_and c =
    let d = (c.dependency.ensures c.in-Some.signal).0 c.in-Some.is in (
      λ t. (c.in-Some.signal, record { kind = c.is_and.ensures.0 c.if-is_and.true; dependency = d; decrements = c.completes_on.ensures.0 t }),
      λ h. c.completes_on.ensures.1 (subst (λ s. Decrements (plan c.args.job.now) c.args.p s) (some_same h.0 c.in-Some.signal (sym ((c.dependency.ensures h.0).1 h.1.dependency) ∙ c.in-Some.is)) h.1.decrements),
    )

pub returns-in-None : goal.returns-in-None
returns-in-None c = (
  λ t. let never : ⊥ = cc in absurd never,
  λ h. let e = (c.dependency.ensures h.0).1 h.1.dependency in let never : ⊥ = cc in absurd never,
)

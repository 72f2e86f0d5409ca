use Rattle.std.proofs.Common.{IsTrue, subst, sym}
use Rattle.hq_job.specs.Plan.{plan}
use Rattle.hq_certcheck.proofs.Flagged.{flagged_by}
use Rattle.hq_certcheck.proofs.missing.are_flagged.Goals as goal

pub returns-clause-all : goal.returns-clause-all
returns-clause-all c =
    let job = plan c.args.job.now in
    let by = flagged_by job c.args.p c.args.r c.kinds.result c.flags_of.result c.kinds.ensures in (
      λ t kind conflict. subst (λ b. IsTrue b) (c.flags_of.ensures kind) (by.0 (c.covers.ensures.all.0 t) kind conflict),
      λ f. c.covers.ensures.all.1 (by.1 (λ kind conflict. subst (λ b. IsTrue b) (sym (c.flags_of.ensures kind)) (f kind conflict))),
    )

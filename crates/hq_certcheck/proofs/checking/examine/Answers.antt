use Rattle.std.proofs.Common.{ℕ, Option, IfOk, subst, sym, ◌∙◌}
use Rattle.std.proofs.lemmas.Result.{err_from_is_err_and}
use Rattle.hq_job.specs.Plan.{plan}
use Rattle.hq_model.specs.Certificate as model
use Rattle.hq_model.specs.Order.{OrderList}
use Rattle.hq_certcheck.specs.Covering.{MissingIs}
use Rattle.hq_certcheck.specs.Listed.{BadLineIs, BadPairIs}
use Rattle.hq_certcheck.specs.Seen.{IsSeen}
use Rattle.hq_certcheck.proofs.Blocks.{but_none}
use Rattle.hq_certcheck.proofs.checking.examine.Goals as goal

pub returns-in_err-list-clause-refused : goal.returns-in_err-list-clause-refused
returns-in_err-list-clause-refused c =
    let p = err_from_is_err_and c.from_residual.result c.from_residual.ensures.1 in
    rw (p.1, p.2) (λ d order seen. c.in_err-list.ensures.refused d order)

pub returns-in-Some-clause-refused : goal.returns-in-Some-clause-refused
returns-in-Some-clause-refused c d order seen =
    let job = plan c.args.job.now in
    let h = subst (λ (found : Option ℕ). BadLineIs job d.lines found) (sym c.bad_line.ensures ∙ c.in-Some.is) (but_none job d.lines _ seen.checked) in
    (subst (OrderList job) (sym order) c.in_ok-list.ensures.ok.0, h)

pub returns-in_err-check_pairs-clause-refused : goal.returns-in_err-check_pairs-clause-refused
returns-in_err-check_pairs-clause-refused c =
    let job = plan c.args.job.now in
    let p = err_from_is_err_and c.from_residual-in_err-check_pairs.result c.from_residual-in_err-check_pairs.ensures.1 in
    rw (p.1, p.2) (λ d order seen. c.in_err-check_pairs.ensures.refused job d
    (subst (λ m. IfOk m (λ found. (x : model.Certificate) → IsSeen job x c.args.seen.now → MissingIs job x.pairs found)) c.in_ok-missing.was c.requires d seen)
    (subst (λ (bad : Option (ℕ × ℕ)). BadPairIs job d.lines d.pairs bad) (sym c.bad_pair.ensures) seen.bad)
    (subst (OrderList job) (sym order) c.in_ok-list.ensures.ok.0)
    (subst (λ (found : Option ℕ). BadLineIs job d.lines found) (sym c.bad_line.ensures ∙ c.in_default.is) (but_none job d.lines _ seen.checked)))

pub returns-clause-ok : goal.returns-clause-ok
returns-clause-ok c d order seen =
    let job = plan c.args.job.now in (
      c.in_ok-check_pairs.ensures.ok job d
          (subst (λ m. IfOk m (λ found. (x : model.Certificate) → IsSeen job x c.args.seen.now → MissingIs job x.pairs found)) c.in_ok-missing.was c.requires d seen)
          (subst (λ (bad : Option (ℕ × ℕ)). BadPairIs job d.lines d.pairs bad) (sym c.bad_pair.ensures) seen.bad)
          (subst (OrderList job) (sym order) c.in_ok-list.ensures.ok.0)
          (subst (λ (found : Option ℕ). BadLineIs job d.lines found) (sym c.bad_line.ensures ∙ c.in_default.is) (but_none job d.lines _ seen.checked)),
      c.in_ok-list.ensures.ok.1 ∙ sym order,
    )

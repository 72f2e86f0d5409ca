use Rattle.std.proofs.Common.{sym, subst}
use Rattle.hq_job.specs.Plan.{plan}
use Rattle.hq_rows.specs.Matrix.{IsSquare}
use Rattle.hq_order.specs.Sweeping.{HaveAsked}
use Rattle.hq_order.proofs.Single.{count}
use Rattle.hq_order.proofs.Swept.{asked_have_order}
use Rattle.hq_order.proofs.sweeping.sweep.Goals as goal

pub returns-then-branch : goal.returns-then-branch
returns-then-branch c =
    asked_have_order (plan c.args.job.now) c.renew.new.rows.items (subst (λ n. IsSquare n c.renew.new.rows.items) (sym (count c.args.job.now)) c.in_ok-renew.ensures)
    (subst (HaveAsked (plan c.args.job.now)) c.deref-in-loop-2.ensures.value (c.in_ok-have_asked.ensures c.if-branch.true))

use Rattle.std.proofs.Common.{ℕ, subst}
use Rattle.hq_job.specs.Plan.{plan}
use Rattle.hq_order.specs.Rounds.{Next}
use Rattle.hq_rows.specs.Matrix.{Marks}
use Rattle.hq_order.proofs.Closure.{closed_whole}
use Rattle.hq_order.proofs.before.is_closed.Goals as goal

pub returns-then-has_no_either : goal.returns-then-has_no_either
returns-then-has_no_either c = λ t.
    let job = plan c.args.job.now in
    subst (λ rows. (p r : ℕ) → Next job (Marks rows) p r → Marks rows p r) c.last_rows.ensures (closed_whole job c.last_rows.result.now (c.are_whole.ensures t) (c.has_no_either.ensures c.if-has_no_either.true))

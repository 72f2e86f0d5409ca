use Rattle.std.proofs.Common.{subst}
use Rattle.std.proofs.lemmas.Result.{IfOk-weaker}
use Rattle.hq_job.specs.Plan.{plan}
use Rattle.hq_explain.specs.Trials.{HasBits}
use Rattle.hq_explain.proofs.bits.bits_order.Goals as goal

pub returns-clause-ordered : goal.returns-clause-ordered
returns-clause-ordered c =
    let new = plan c.set_bits.new.job in
    let bits = subst (λ v. HasBits (plan v) new c.args.lo c.args.hi) c.in_ok-copy.ensures c.set_bits.ensures in
    IfOk-weaker c.orders-ordered.result _ _ (λ ordered is. (new, bits, is)) c.orders-ordered.ensures.ordered

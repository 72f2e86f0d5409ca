use Rattle.std.proofs.Common.{refl, sym}
use Rattle.std.proofs.lemmas.Result.{IfOk-weaker}
use Rattle.hq_job.specs.Plan.{plan}
use Rattle.hq_change.proofs.Foreseeing.{foreseen_settled}
use Rattle.hq_change.proofs.Whole.{parts_stay}
use Rattle.hq_change.proofs.bits.foresee_all.Goals as goal

pub is_ordered-requires : goal.is_ordered-requires
is_ordered-requires g c = parts_stay (plan c.args.job.now) (plan c.foresee.new.job) c.args.search.now.parts.now (sym c.in_ok-foresee.ensures.foreseen.below.same) c.requires.parts

pub returns-clause-settled : goal.returns-clause-settled
returns-clause-settled g c =
    let old = plan c.args.job.now in
    IfOk-weaker c.is_ordered.result _ _ (λ yes shown is.
    foreseen_settled c.args.search.now.floor.now old old (plan c.foresee.new.job) refl c.requires.ordered c.in_ok-foresee.ensures.foreseen (shown is)) c.is_ordered.ensures

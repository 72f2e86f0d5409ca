use Rattle.std.proofs.lemmas.Result.{on_ok_weaker}
use Rattle.std.proofs.Common.{◌++◌, subst}
use Rattle.hq_job.specs.Plan.{plan}
use Rattle.hq_judging.specs.Giving.{IsWholeText}
use Rattle.hq_judging.specs.Places.{IsTextBetween, start_place, end_place}
use Rattle.hq_judging.proofs.Audited.{such_both}
use Rattle.hq_judging.proofs.Places.{between_both, whole_between}
use Rattle.hq_judging.proofs.giving_wide.print_body_wide.Goals as goal

pub loop-turn-preserved : goal.loop-turn-preserved
loop-turn-preserved g c =
    let job = plan c.args.job.now in
    let a = c.args.audited.now in
    let at = c.loop-turn.at in
    let next = c.in_ok-at.at in
    record {
      ready = c.in_ok-at.ensures.ready;
      place = c.in_ok-at.ensures.leads.to;
      prints = such_both (IsTextBetween job a start_place at) (IsTextBetween job a at next) (IsTextBetween job a start_place next) (λ t s h k. between_both job a start_place at next t s h k) c.loop-turn.invariant.prints c.in_ok-at.ensures.prints;
    }

pub returns-clause-prints : goal.returns-clause-prints
returns-clause-prints g c = on_ok_weaker c.print_between.result (λ h.
    let job = plan c.args.job.now in
    let a = c.args.audited.now in
    let at = c.loop-turn.at in
    such_both (IsTextBetween job a start_place at) (IsTextBetween job a at c.end.result) (IsWholeText job a)
    (λ t s f k. whole_between job a (t ++ s) (between_both job a start_place at (end_place a) t s f (subst (λ q. IsTextBetween job a at q s) c.end.ensures k))) c.loop-turn.invariant.prints h) c.print_between.ensures.prints

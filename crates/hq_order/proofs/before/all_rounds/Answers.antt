use Rattle.std.proofs.Common.{[], ◌∷◌, ◌++◌, ◌≤◌, length, sym, ◌∙◌, ap, subst, arith}
use Rattle.hq_job.specs.Plan.{plan}
use Rattle.hq_order.specs.Rounds.{AreRounds}
use Rattle.hq_rows.specs.Matrix.{IsSquare, last, earlier}
use Rattle.hq_rows.specs.Uniting.{Stepped}
use Rattle.hq_order.proofs.Single.{count}
use Rattle.hq_order.proofs.Closure.{first_round}
use Rattle.hq_rows.proofs.Gathered.{stepped_first}
use Rattle.hq_order.proofs.before.all_rounds.Goals as goal

pub rounds-init : goal.rounds-init
rounds-init g c =
    let first = c.in_ok-first_rows.field-0 in
    let is = c.in_ok-push.ensures.items ∙ ap (λ xs. xs ++ first ∷ []) c.new-rounds.ensures.items in
    let height = c.in_ok-first_rows.ensures.square.height in
    let few : length first.items ≤ 1024 = omega (arith, c.valid.ensures.limits.packets) in
    record {
      rounds = subst (AreRounds (plan c.args.job.now)) (sym is) (first_round (plan c.args.job.now) first (subst (λ n. IsSquare n first.items) (sym (count c.args.job.now)) c.in_ok-first_rows.ensures.square) c.in_ok-first_rows.ensures.exact);
      stepped = subst (λ rounds. Stepped (earlier rounds) (last rounds) c.in_ok-renewed.renewed.items) (sym is) (stepped_first first c.in_ok-renewed.renewed.items few c.in_ok-renewed.ensures.all);
    }

pub returns-clause-closed : goal.returns-clause-closed
returns-clause-closed g c = c.in_ok-add_round.ensures.closed c.if-branch.false

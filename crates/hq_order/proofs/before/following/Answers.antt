use Rattle.std.proofs.Common.{◌-◌, ◌↔◌, ℕ, IfOk, length, sym, ◌∙◌, subst, arith}
use Rattle.hq_rows.specs.Matrix.{words_for, Marks, IsSquare, last, earlier}
use Rattle.hq_job.specs.Plan.{plan}
use Rattle.hq_order.specs.Rounds.{Next}
use Rattle.hq_rows.specs.Uniting.{CanUnite, Stepped}
use Rattle.hq_order.proofs.Single.{count}
use Rattle.hq_order.proofs.before.following.Goals as goal

pub unions_if_many-requires : goal.unions_if_many-requires
unions_if_many-requires g c = record {
  width = λ k l.
      let some = c.requires.rounds.some in
      let rounds = c.args.rounds.now in
      let square = subst (IsSquare (length c.args.job.now.packets)) (sym c.last_rows-rows.ensures) (subst (λ n. IsSquare n (last rounds)) (count c.args.job.now) (c.requires.rounds.square (length rounds - 1) (omega arith))) in
      let height = square.height in
      square.width k (omega arith) ∙ sym c.words_of.ensures.words;
}

pub next_rows-requires-clause-square : goal.next_rows-requires-clause-square
next_rows-requires-clause-square g c =
    let some = c.requires.rounds.some in
    let rounds = c.args.rounds.now in
    subst (IsSquare (length c.args.job.now.packets)) (sym c.last_rows-rows.ensures) (subst (λ n. IsSquare n (last rounds)) (count c.args.job.now) (c.requires.rounds.square (length rounds - 1) (omega arith)))

pub next_rows-requires-clause-unions : goal.next_rows-requires-clause-unions
next_rows-requires-clause-unions g c =
    subst (λ unions. CanUnite c.last_rows-rows.result.now (words_for (length c.args.job.now.packets)) unions) (sym c.deref.ensures.value)
    (subst (λ words. CanUnite c.last_rows-rows.result.now words c.in_ok-unions.unions.items) c.words_of.ensures.words c.in_ok-unions.ensures)

pub next_rows-requires-clause-stepped : goal.next_rows-requires-clause-stepped
next_rows-requires-clause-stepped g c =
    subst (λ rows. Stepped rows c.last_rows-rows.result.now c.args.renewed.now) (sym c.earlier_rows-earlier.ensures)
    (subst (λ rows. Stepped (earlier c.args.rounds.now) rows c.args.renewed.now) (sym c.last_rows-rows.ensures) c.requires.stepped)

pub returns-clause-exact : goal.returns-clause-exact
returns-clause-exact g c = subst (λ known. IfOk c.next_rows.result (λ rows. (p r : ℕ) → Marks rows.items p r ↔ Next (plan c.args.job.now) (Marks known) p r)) c.last_rows-rows.ensures c.next_rows.ensures.exact

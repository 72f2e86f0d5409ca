use Rattle.std.proofs.Common.{IsTrue, ℕ, ◌-◌, ◌<◌, ◌↔◌, ◌++◌, ◌∷◌, [], sym, ◌∙◌, arith, length, ap, subst}
use Rattle.hq_job.specs.Plan.{plan}
use Rattle.hq_rows.specs.Matrix.{row, Marks, last, earlier, lag, lag_of_rows, IsSquare, Differ}
use Rattle.hq_order.specs.Rounds.{AreRounds, IsClosed, Next}
use Rattle.hq_bits.specs.Bits.{Grown, has}
use Rattle.hq_rows.specs.Uniting.{Stepped}
use Rattle.hq_order.proofs.Single.{count}
use Rattle.hq_rows.proofs.Growth.{lag_falls}
use Rattle.hq_rows.proofs.Rows.{given_back}
use Rattle.hq_rows.proofs.Gathered.{earlier_pushed}
use Rattle.hq_order.proofs.Closure.{more_rounds}
use Rattle.hq_rows.proofs.Pushed.{last_pushed}
use Rattle.hq_order.proofs.before.add_round.Goals as goal

pub are_same-requires : goal.are_same-requires
are_same-requires g c =
    let rounds = c.args.rounds.now.items in
    let some = c.requires.rounds.some in
    let square = c.requires.rounds.square (length rounds - 1) (omega arith) in
    let is = c.last_rows.ensures ∙ ap last c.deref-6.ensures.value in
    ap length c.deref-5.ensures.value ∙ c.in_ok-next.ensures.square.height ∙ sym (count c.args.job.now) ∙ sym square.height ∙ sym (ap length is)

pub returns-clause-rounds : goal.returns-clause-rounds
returns-clause-rounds g c =
    let job = plan c.args.job.now in
    let rounds = c.args.rounds.now.items in
    let next = c.in_ok-next.next in
    let exact = subst (λ rows. (p r : ℕ) → Marks next.items p r ↔ Next job (Marks rows) p r) (ap last c.deref-3.ensures.value) c.in_ok-next.ensures.exact in
    subst (AreRounds job) (sym c.in_ok-push.ensures.items) (more_rounds job rounds next c.requires.rounds (subst (λ n. IsSquare n next.items) (sym (count c.args.job.now)) c.in_ok-next.ensures.square) exact)

pub returns-clause-stepped : goal.returns-clause-stepped
returns-clause-stepped g c = λ answer.
    let rounds = c.args.rounds.now.items in
    let next = c.in_ok-next.next in
    let new = c.following.new.new in
    let back = given_back c.in_ok-new.new.len c.in_ok-new.new.items new (sym c.in_ok-new.new.ok.0) (c.following.auto.new ∙ ap length c.deref_mut.ensures.value) in
    let stepped = subst (λ rows. Stepped rows next.items new) (ap last c.deref-3.ensures.value) c.in_ok-next.ensures.stepped in
    let pushed = subst (λ rows. Stepped rows (last (rounds ++ next ∷ [])) new) (sym (earlier_pushed rounds next c.requires.rounds.some)) (subst (λ rows. Stepped (last rounds) rows new) (sym (last_pushed rounds next)) stepped) in
    subst (λ renewed. Stepped (earlier c.push.new.self.items) (last c.push.new.self.items) renewed) (sym back) (subst (λ all. Stepped (earlier all) (last all) new) (sym c.in_ok-push.ensures.items) pushed)

pub returns-clause-falls : goal.returns-clause-falls
returns-clause-falls g c = λ answer.
    let rounds = c.args.rounds.now.items in
    let some = c.requires.rounds.some in
    let next = c.in_ok-next.next in
    let square = c.requires.rounds.square (length rounds - 1) (omega arith) in
    let len = c.in_ok-next.ensures.square.height ∙ sym (count c.args.job.now) ∙ sym square.height in
    let grown = subst (λ rows. (r : ℕ) → Grown (row rows r) (row next.items r)) (ap last c.deref-3.ensures.value) c.in_ok-next.ensures.grown in
    let differ = subst (λ rows. Differ next.items rows) (c.last_rows.ensures ∙ ap last c.deref-6.ensures.value) (subst (λ rows. Differ rows c.last_rows.result.now) c.deref-5.ensures.value (c.are_same.ensures.other c.if-are_same.false)) in
    subst (λ rows. lag_of_rows rows < lag rounds) (sym (ap last c.in_ok-push.ensures.items ∙ last_pushed rounds next)) (lag_falls (last rounds) next.items len grown differ)

pub returns-then-is_closed-clause-closed : goal.returns-then-is_closed-clause-closed
returns-then-is_closed-clause-closed g c = λ _. subst (IsClosed (plan c.args.job.now)) c.deref.ensures.value (c.is_closed.ensures c.if-is_closed.true)

pub returns-then-are_same-clause-closed : goal.returns-then-are_same-clause-closed
returns-then-are_same-clause-closed g c = λ _ p r n.
    let job = plan c.args.job.now in
    let rounds = c.args.rounds.now.items in
    let next = c.in_ok-next.next in
    let exact = subst (λ rows. (p r : ℕ) → Marks next.items p r ↔ Next job (Marks rows) p r) (ap last c.deref-3.ensures.value) c.in_ok-next.ensures.exact in
    let same = ap (λ rows. row rows r) (sym c.deref-5.ensures.value) ∙ c.are_same.ensures.same c.if-are_same.true r ∙ ap (λ rows. row rows r) (c.last_rows.ensures ∙ ap last c.deref-6.ensures.value) in
    subst (λ words. IsTrue (has words p)) same ((exact p r).1 n)

use Rattle.std.proofs.Common.{◌↔◌, ◌⊎◌, length, refl, sym, ◌∙◌, ap, subst, IsTrue}
use Rattle.hq_job.specs.Plan.{plan}
use Rattle.hq_bits.specs.Bits.{has}
use Rattle.hq_rows.specs.Matrix.{row, Marks}
use Rattle.hq_order.specs.Rounds.{Next, ByOr}
use Rattle.hq_rows.specs.Uniting.{Through}
use Rattle.hq_rows.proofs.Rows.{given_back}
use Rattle.hq_order.proofs.Turns.{next_exact}
use Rattle.hq_rows.proofs.Gathered.{one_or}
use Rattle.hq_order.proofs.rounds.next_row.Goals as goal

pub returns-clause-exact : goal.returns-clause-exact
returns-clause-exact c = λ p.
    let job = plan c.args.job.now in
    let rows = c.args.known.now.rows.now in
    let back = given_back c.in_ok-new.new.len c.in_ok-new.new.items c.unite_shared.new.new (sym c.in_ok-new.new.ok.0) (c.unite_shared.auto.new ∙ ap length c.deref_mut.ensures.value) in
    subst (λ row. IsTrue (has row p) ↔ Next job (Marks rows) p c.args.r) (sym back)
    (next_exact job rows (row rows c.args.r) p c.args.r (IsTrue (has c.in_ok-new.new.items p)) (IsTrue (has c.unite_shared.new.new p)) refl (c.in_ok-new.ensures.exact p)
    (subst (λ old. IsTrue (has c.unite_shared.new.new p) ↔ (IsTrue (has old p) ⊎ ByOr job (Marks rows) p c.args.r)) c.deref_mut.ensures.value (c.in_ok-more.ensures.exact p)))

pub returns-clause-rests : goal.returns-clause-rests
returns-clause-rests c = λ p h.
    let back = given_back c.in_ok-new.new.len c.in_ok-new.new.items c.unite_shared.new.new (sym c.in_ok-new.new.ok.0) (c.unite_shared.auto.new ∙ ap length c.deref_mut.ensures.value) in
    one_or c.in_ok-more.more (IsTrue (has c.note.new.renewed c.args.r)) (Through c.args.known.now.rows.now p c.args.r) c.note.ensures.noted
    (λ none. (c.in_ok-new.ensures.exact p).0 (subst (λ old. IsTrue (has old p)) c.deref_mut.ensures.value (c.in_ok-more.ensures.more none p (subst (λ new. IsTrue (has new p)) back h))))

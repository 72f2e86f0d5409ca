use Rattle.std.proofs.Common.{◌≡◌, ◌↔◌, length, inr, ℕ, ◌⊎◌, sym, ◌∙◌, ap, subst, arith, IsTrue}
use Rattle.hq_job.specs.Plan.{plan}
use Rattle.hq_bits.specs.Bits.{has}
use Rattle.hq_rows.specs.Matrix.{Marks, words_for}
use Rattle.hq_waits.specs.Waits.{Completing}
use Rattle.hq_order.specs.Rounds.{Reaches}
use Rattle.hq_rows.proofs.Lists.{one_is}
use Rattle.hq_bits.proofs.Words.{joined}
use Rattle.hq_order.proofs.Swept.{can_unite}
use Rattle.hq_order.proofs.Turns.{reaches_set}
use Rattle.hq_order.proofs.sweeping.unite_branch.Goals as goal

pub reached-requires-clause-unions : goal.reached-requires-clause-unions
reached-requires-clause-unions c =
    let set = one_is (λ s set. Completing (plan c.args.job.now) s set.items × (length set.items ≡ words_for (length c.args.job.now.packets))) c.args.completing.now c.args.signal c.index-completing-signal.result c.requires.completing c.requires.low c.index-completing-signal.is in
    can_unite c.args.rows.now (length c.deref.result.now) c.known_by.result.rows.now c.known_by.result.unions.now c.known_by.ensures.rows c.known_by.ensures.unions
    (λ k low. c.requires.square.width k (omega (arith, low, c.requires.square.height)) ∙ sym (ap length c.deref.ensures.value ∙ set.1))

pub returns-clause-taken : goal.returns-clause-taken
returns-clause-taken c = λ p reach.
    let job = plan c.args.job.now in
    let Q = Reaches job (Marks c.args.rows.now) p c.args.signal in
    let set = one_is (λ s set. Completing (plan c.args.job.now) s set.items × (length set.items ≡ words_for (length c.args.job.now.packets))) c.args.completing.now c.args.signal c.index-completing-signal.result c.requires.completing c.requires.low c.index-completing-signal.is in
    let exact = subst (λ rs. IsTrue (has c.in_ok-branch.branch.items p) ↔ (IsTrue (has c.deref.result.now p) ⊎ ((m : ℕ) × Marks rs p m × IsTrue (has c.deref.result.now m)))) c.known_by.ensures.rows (c.in_ok-branch.ensures.exact p) in
    let known = reaches_set job c.args.rows.now c.deref.result.now p c.args.signal (IsTrue (has c.in_ok-branch.branch.items p)) (subst (Completing job c.args.signal) (sym c.deref.ensures.value) set.0) exact in
    (joined (has c.args.row.now p) (has c.deref-2.result.now p) (has c.unite.new.row p) Q (c.unite.ensures.exact p)
    (subst (λ row. IsTrue (has row p) ↔ Q) (sym c.deref-2.ensures.value) known)).1 (inr reach)

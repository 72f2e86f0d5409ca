use Rattle.std.proofs.Common.{◌≡◌, ◌↔◌, ◌⊎◌, ℕ, length, sym, ◌∙◌, ap, subst, IsTrue}
use Rattle.hq_bits.specs.Bits.{has}
use Rattle.hq_rows.specs.Matrix.{Marks}
use Rattle.hq_rows.proofs.Rows.{given_back}
use Rattle.hq_rows.proofs.Gathered.{reached_exact}
use Rattle.hq_rows.proofs.reaching.reached.Goals as goal

pub returns-clause-len : goal.returns-clause-len
returns-clause-len c =
    let back = given_back c.in_ok-reached.reached.len c.in_ok-reached.reached.items c.unite_fresh.new.new (sym c.in_ok-reached.reached.ok.0) (c.unite_fresh.auto.new ∙ ap length c.deref_mut.ensures.value) in
    ap length back ∙ c.unite_fresh.auto.new ∙ ap length (c.deref_mut.ensures.value ∙ c.in_ok-reached.ensures.items_if_clones_equal (λ y e h. h))

pub returns-clause-exact : goal.returns-clause-exact
returns-clause-exact c = λ p.
    let rows = c.args.known.now.rows.now in
    let set = c.args.set.now in
    let back = given_back c.in_ok-reached.reached.len c.in_ok-reached.reached.items c.unite_fresh.new.new (sym c.in_ok-reached.reached.ok.0) (c.unite_fresh.auto.new ∙ ap length c.deref_mut.ensures.value) in
    let first : c.deref_mut.result.now ≡ set = c.deref_mut.ensures.value ∙ c.in_ok-reached.ensures.items_if_clones_equal (λ y e h. h) in
    subst (λ row. IsTrue (has row p) ↔ (IsTrue (has set p) ⊎ ((m : ℕ) × Marks rows p m × IsTrue (has set m)))) (sym back) (reached_exact rows set c.deref_mut.result.now c.unite_fresh.new.new p first (c.unite_fresh.ensures.exact p))

use Rattle.std.proofs.Common.{◌≡◌, ◌↔◌, inl, inr, length, sym, ◌∙◌, ap, subst, IsTrue}
use Rattle.hq_job.specs.Plan.{plan}
use Rattle.hq_bits.specs.Bits.{has}
use Rattle.hq_order.specs.Rounds.{Direct}
use Rattle.hq_rows.proofs.Rows.{given_back}
use Rattle.hq_order.proofs.direct.direct_row.Goals as goal

pub returns-clause-exact : goal.returns-clause-exact
returns-clause-exact c = λ p.
    let back = given_back c.in_ok-row.row.len c.in_ok-row.row.items c.unite_awaited.new.row (sym c.in_ok-row.row.ok.0) (c.unite_awaited.auto.row ∙ ap length c.deref_mut.ensures.value) in
    let first : c.deref_mut.result.now ≡ c.args.ahead.now = c.deref_mut.ensures.value ∙ c.in_ok-row.ensures.items_if_clones_equal (λ y e h. h) in
    let taken = c.in_ok-unite_awaited.ensures p in
    subst (λ row. IsTrue (has row p) ↔ Direct (plan c.args.job.now) p c.args.r) (sym back) (
      λ h. elim (taken.0 h) [ inl o ↦ inl ((c.requires.ahead p).0 (subst (λ row. IsTrue (has row p)) first o)) | inr a ↦ inr a ],
      λ d. taken.1 (elim d [ inl x ↦ inl (subst (λ row. IsTrue (has row p)) (sym first) ((c.requires.ahead p).1 x)) | inr a ↦ inr a ]),
    )

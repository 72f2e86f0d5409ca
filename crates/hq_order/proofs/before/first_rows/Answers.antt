use Rattle.std.proofs.Common.{◌≡◌, ◌+◌, ◌-◌, ◌<◌, ◌↔◌, ◌∷◌, [], sym, ◌∙◌, arith, length, ap, subst, IsTrue, length-append}
use Rattle.hq_job.specs.Plan.{plan}
use Rattle.hq_bits.specs.Bits.{has}
use Rattle.hq_rows.specs.Matrix.{words_for}
use Rattle.hq_order.specs.Rounds.{Direct, Precedes}
use Rattle.hq_order.proofs.Single.{direct_packet_r, few}
use Rattle.hq_rows.proofs.Rows.{marked_below, given_back}
use Rattle.hq_rows.proofs.Pushed.{pushed}
use Rattle.hq_order.proofs.before.first_rows.Goals as goal

pub go_on-requires-clause-ahead : goal.go_on-requires-clause-ahead
go_on-requires-clause-ahead c = λ p. subst (λ row. IsTrue (has row p) ↔ ((0 < c.loop-r.r) × Precedes (plan c.args.job.now) p (c.loop-r.r - 1))) (sym c.deref_mut.ensures.value) (c.loop-r.invariant.ahead p)

pub direct_row-requires-clause-ahead : goal.direct_row-requires-clause-ahead
direct_row-requires-clause-ahead c = λ p.
    let back = given_back c.loop-r.ahead.len c.loop-r.ahead.items c.go_on.new.ahead (sym c.loop-r.ahead.ok.0) (c.go_on.auto.ahead ∙ ap length c.deref_mut.ensures.value) in
    subst (λ row. IsTrue (has row p) ↔ Precedes (plan c.args.job.now) p c.loop-r.r) (sym (c.deref.ensures.value ∙ back)) (c.go_on.ensures p)

pub loop-r-preserved : goal.loop-r-preserved
loop-r-preserved c =
    let job = plan c.args.job.now in
    let e = c.in_ok-push.ensures.items in
    let back = given_back c.loop-r.ahead.len c.loop-r.ahead.items c.go_on.new.ahead (sym c.loop-r.ahead.ok.0) (c.go_on.auto.ahead ∙ ap length c.deref_mut.ensures.value) in
    let one_less : c.loop-r.r ≡ c.loop-r.r + 1 - 1 = omega arith in
    let wide = ap length back ∙ c.go_on.auto.ahead ∙ ap length c.deref_mut.ensures.value ∙ c.loop-r.invariant.words in
    record {
      count = c.loop-r.invariant.count;
      words = wide;
      ahead = λ p. subst (λ row. IsTrue (has row p) ↔ ((0 < c.loop-r.r + 1) × Precedes job p (c.loop-r.r + 1 - 1))) (sym back)
          (subst (λ k. IsTrue (has c.go_on.new.ahead p) ↔ ((0 < c.loop-r.r + 1) × Precedes job p k)) one_less (λ h. (omega arith, (c.go_on.ensures p).0 h), λ h. (c.go_on.ensures p).1 h.1));
      len = ap length e ∙ length-append c.loop-r.rows.items (c.in_ok-direct_row.field-0 ∷ []) ∙ ap (λ n. n + 1) c.loop-r.invariant.len;
      width = pushed (λ r words. length words ≡ words_for (length c.args.job.now.packets)) c.loop-r.rows.items c.in_ok-direct_row.field-0 c.push.new.self.items c.loop-r.r c.loop-r.invariant.len e c.loop-r.invariant.width (c.in_ok-direct_row.ensures.len ∙ ap length c.deref.ensures.value ∙ wide);
      exact = λ p. pushed (λ r words. IsTrue (has words p) ↔ Direct job p r) c.loop-r.rows.items c.in_ok-direct_row.field-0 c.push.new.self.items c.loop-r.r c.loop-r.invariant.len e (c.loop-r.invariant.exact p) (c.in_ok-direct_row.ensures.exact p);
    }

pub returns-clause-exact : goal.returns-clause-exact
returns-clause-exact c = λ p r.
    let n = c.loop-r-test.false in (
      λ m. (c.loop-r.invariant.exact p r (let l = marked_below c.loop-r.rows.items p r m in let e = c.loop-r.invariant.len in omega arith)).0 m,
      λ d. (c.loop-r.invariant.exact p r (let l = few c.args.job.now r (direct_packet_r (plan c.args.job.now) p r d) in let e = c.loop-r.invariant.count in omega arith)).1 d,
    )

use Rattle.std.proofs.Common.{ℕ, ◌+◌, ◌<◌, ◌≤◌, length, sym, ◌∙◌, ap, subst, IsTrue, rules}
use Rattle.std.proofs.lemmas.Bool.{true≢false}
use Rattle.hq_fence.specs.Judgement.{HaveConflict}
use Rattle.hq_parts.specs.Parts.{NeverConflict}
use Rattle.hq_bits.specs.Bits.{has}
use Rattle.hq_rows.proofs.Rows.{given_back}
use Rattle.hq_change.proofs.Foreseeing.{all_first, all_kept, all_more, conflict_more}
use Rattle.hq_change.proofs.foresight.conflict_row.Goals.{then-have_conflict, else-have_conflict}
use Rattle.hq_change.proofs.foresight.conflict_row.Goals as goal

pub others-init : goal.others-init
others-init c = record {
  below = subst (λ k. c.next-b.result ≤ length k.packets) c.job-job.ensures c.next-b.ensures.below;
  len = search rules;
  conflict = search rules;
  all = all_first c.args.before.now c.args.a c.next-b.result _ (λ s from low. subst (λ k. NeverConflict k c.args.a s) c.job-job.ensures (c.next-b.ensures.apart c.args.a s c.others-others.ensures from low));
}

pub others-preserved : goal.others-preserved
others-preserved c =
    let never : (s : ℕ) → c.others.b + 1 ≤ s → s < c.next-b-in-others.result → NeverConflict c.args.before.now c.args.a s = λ s from low. subst (λ k. NeverConflict k c.args.a s) c.job-job.ensures (c.next-b-in-others.ensures.apart c.args.a s c.others-others.ensures from low) in
    elim c.if-have_conflict.branch [
      | then-have_conflict w ↦
          let row = c.others.row in
          let back = given_back row.len row.items w.insert.new.row (sym row.ok.0) (w.insert.auto.row ∙ ap length w.deref_mut.ensures.value) in
          rw w.row-is (record {
            below = subst (λ k. c.next-b-in-others.result ≤ length k.packets) c.job-job.ensures c.next-b-in-others.ensures.below;
            len = ap length back ∙ w.insert.auto.row ∙ ap length w.deref_mut.ensures.value ∙ c.others.invariant.len;
            conflict = λ b h. conflict_more c.args.before.now c.args.a c.others.b row.items w.deref_mut.result.now w.insert.new.row w.deref_mut.ensures.value w.insert.ensures c.others-test.true (subst (λ k. HaveConflict k c.others.b c.args.a) c.job-job.ensures (c.have_conflict.ensures.0 w.if-have_conflict.true)) c.others.invariant.conflict b (subst (λ xs. IsTrue (has xs b)) back h);
            all = λ x low less h. subst (λ xs. IsTrue (has xs x)) (sym back) (all_more c.args.before.now c.args.a c.others.b c.next-b-in-others.result row.items c.others.invariant.all never w.deref_mut.result.now w.insert.new.row w.deref_mut.ensures.value w.insert.ensures x low less h);
          })
      | else-have_conflict w ↦ rw w.row-is (record {
        below = subst (λ k. c.next-b-in-others.result ≤ length k.packets) c.job-job.ensures c.next-b-in-others.ensures.below;
        len = c.others.invariant.len;
        conflict = c.others.invariant.conflict;
        all = all_kept c.args.before.now c.args.a c.others.b c.next-b-in-others.result c.others.row.items c.others.invariant.all never (λ h. true≢false (sym (c.have_conflict.ensures.1 (subst (λ k. HaveConflict k c.others.b c.args.a) (sym c.job-job.ensures) h)) ∙ w.if-have_conflict.false));
      })
    ]

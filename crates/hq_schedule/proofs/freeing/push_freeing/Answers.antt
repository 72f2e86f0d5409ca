use Rattle.std.proofs.Common.{◌≡◌, ◌+◌, ◌↔◌, ◌⊎◌, ◌∷◌, [], ℕ, IsTrue, sym, subst, length, ◌∙◌, ap, slice_index, length-append}
use Rattle.hq_job.specs.Plan.{plan}
use Rattle.hq_model.specs.Job.{Frees}
use Rattle.hq_bits.specs.Bits.{has}
use Rattle.hq_rows.specs.Lists.{AllAre}
use Rattle.hq_schedule.specs.Placing.{Freeing}
use Rattle.hq_rows.proofs.Lists.{all_push}
use Rattle.hq_rows.proofs.Filling.{Gathered, gathered_in}
use Rattle.hq_schedule.proofs.Submitting.{freeing_row}
use Rattle.hq_schedule.proofs.freeing.push_freeing.Goals as goal

pub loop-number-preserved : goal.loop-number-preserved
loop-number-preserved c =
    let P : ℕ → ℕ → Type 0 = λ k e. Frees (plan c.args.job.now) e (slice_index c.args.job.now.submissions k) in
    let taken : (e : ℕ) → IsTrue (has c.insert_freeing.new.row e) ↔ (IsTrue (has c.loop-number.row e) ⊎ P c.loop-number.number-index e) =
    subst (λ xs. (e : ℕ) → IsTrue (has c.insert_freeing.new.row e) ↔ (IsTrue (has c.loop-number.row e) ⊎ Frees (plan c.args.job.now) e (slice_index xs c.loop-number.number-index))) c.submissions-number-items.ensures c.insert_freeing.ensures.taken in
    let more : Gathered P c.args.row.now (c.loop-number.number-index + 1) c.insert_freeing.new.row = gathered_in P c.args.row.now c.loop-number.number-index c.loop-number.row c.insert_freeing.new.row c.loop-number.invariant.row taken c.insert_freeing.ensures.len in
    let copy : c.in_ok-to_vec.field-0.items ≡ c.insert_freeing.new.row = c.in_ok-to_vec.ensures.items_if_clones_equal (λ y e h. h) in
    record {
      rows = subst (AllAre (λ k set. Freeing (plan c.args.job.now) k set.items × (length set.items ≡ length c.args.row.now))) (sym c.in_ok-push.ensures.items)
          (all_push (λ k set. Freeing (plan c.args.job.now) k set.items × (length set.items ≡ length c.args.row.now)) c.loop-number.rows.items c.in_ok-to_vec.field-0 c.loop-number.number-index c.loop-number.invariant.rows c.loop-number.invariant.count
          (subst (Freeing (plan c.args.job.now) c.loop-number.number-index) (sym copy) (freeing_row (plan c.args.job.now) c.args.row.now c.insert_freeing.new.row c.loop-number.number-index c.requires.empty more), ap length copy ∙ more.len));
      count = ap length c.in_ok-push.ensures.items ∙ length-append c.loop-number.rows.items (c.in_ok-to_vec.field-0 ∷ []) ∙ ap (λ n. n + 1) c.loop-number.invariant.count;
      row = more;
    }

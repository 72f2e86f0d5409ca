use Rattle.std.proofs.Common.{◌≡◌, ◌↔◌, ◌+◌, ◌∷◌, [], ℕ, IsTrue, sym, subst, length, ◌∙◌, ap, length-append}
use Rattle.hq_job.specs.Plan.{plan}
use Rattle.hq_model.specs.Order.{FreesFor}
use Rattle.hq_bits.specs.Bits.{has}
use Rattle.hq_rows.specs.Lists.{AllAre}
use Rattle.hq_rows.proofs.Lists.{all_push}
use Rattle.hq_schedule.proofs.slots.slots.Goals as goal

pub loop-number-preserved : goal.loop-number-preserved
loop-number-preserved c = record {
  rows = subst (AllAre (λ p set. ((e : ℕ) → IsTrue (has set.items e) ↔ FreesFor (plan c.args.job.now) e p) × (length set.items ≡ c.args.words))) (sym c.in_ok-push.ensures.items)
      (all_push (λ p set. ((e : ℕ) → IsTrue (has set.items e) ↔ FreesFor (plan c.args.job.now) e p) × (length set.items ≡ c.args.words)) c.loop-number.rows.items c.in_ok-slot_row.field-0 c.loop-number.number c.loop-number.invariant.rows c.loop-number.invariant.count (c.in_ok-slot_row.ensures.row, c.in_ok-slot_row.ensures.len));
  count = ap length c.in_ok-push.ensures.items ∙ length-append c.loop-number.rows.items (c.in_ok-slot_row.field-0 ∷ []) ∙ ap (λ n. n + 1) c.loop-number.invariant.count;
}

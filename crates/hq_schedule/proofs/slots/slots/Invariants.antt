use Rattle.std.proofs.Common.{◌≡◌, ◌↔◌, ℕ, IsTrue, length}
use Rattle.hq_job.specs.Plan.{plan}
use Rattle.hq_model.specs.Order.{FreesFor}
use Rattle.hq_bits.specs.Bits.{has}
use Rattle.hq_rows.specs.Lists.{AllAre}
use Rattle.hq_schedule.proofs.slots.slots.Given as goal

abbrev pub invariant-loop-number : goal.invariant-loop-number
invariant-loop-number l = record {
  rows : AllAre (λ p set. ((e : ℕ) → IsTrue (has set.items e) ↔ FreesFor (plan l.job) e p) × (length set.items ≡ l.words)) l.rows.items;
  count : length l.rows.items ≡ l.number;
}

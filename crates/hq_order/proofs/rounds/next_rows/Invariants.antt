use Rattle.std.proofs.Common.{◌≡◌, ◌↔◌, ◌⊎◌, ℕ, ◌<◌, IsTrue, length}
use Rattle.hq_job.specs.Plan.{plan}
use Rattle.hq_bits.specs.Bits.{has, Grown}
use Rattle.hq_rows.specs.Matrix.{row, Marks}
use Rattle.hq_rows.specs.Uniting.{Through}
use Rattle.hq_order.specs.Rounds.{Next}
use Rattle.hq_order.proofs.rounds.next_rows.Given as goal

abbrev pub invariant-loop-r : goal.invariant-loop-r
invariant-loop-r l = record {
  len : length l.new.items ≡ l.r;
  grown : (r : ℕ) → r < l.r → Grown (row l.known.rows.now r) (row l.new.items r);
  exact : (p r : ℕ) → r < l.r → Marks l.new.items p r ↔ Next (plan l.job) (Marks l.known.rows.now) p r;
  rests : (p r : ℕ) → r < l.r → Marks l.new.items p r → IsTrue (has l.renewed r) ⊎ Through l.known.rows.now p r;
}

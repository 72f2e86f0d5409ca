use Rattle.std.proofs.Common.{◌↔◌, ◌⊎◌, ◌*◌, ℕ, ◌<◌, IsTrue}
use Rattle.hq_bits.specs.Bits.{has, Grown}
use Rattle.hq_rows.proofs.Quartets.{OfGroup}
use Rattle.hq_rows.proofs.gathering.unite_groups.Given as goal

abbrev pub invariant-loop-quarter : goal.invariant-loop-quarter
invariant-loop-quarter l = record {
  grown : Grown l.fn.new l.new;
  exact : (p : ℕ) → IsTrue (has l.new p) ↔ (IsTrue (has l.fn.new p) ⊎ ((group : ℕ) × (group < 4 * l.quarter) × OfGroup l.known.rows.now l.place l.word p group));
}

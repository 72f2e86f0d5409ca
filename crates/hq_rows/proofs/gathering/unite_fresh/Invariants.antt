use Rattle.std.proofs.Common.{◌↔◌, ◌⊎◌, ℕ, ◌<◌, IsTrue}
use Rattle.hq_bits.specs.Bits.{has, Grown}
use Rattle.hq_rows.specs.Uniting.{is_fresh}
use Rattle.hq_rows.proofs.Gathered.{OfFresh}
use Rattle.hq_rows.proofs.gathering.unite_fresh.Given as goal

abbrev pub invariant-loop-place : goal.invariant-loop-place
invariant-loop-place l = record {
  grown : Grown l.fn.new l.new;
  exact : (p : ℕ) → IsTrue (has l.new p) ↔ (IsTrue (has l.fn.new p) ⊎ ((place : ℕ) × (place < l.place) × OfFresh l.known.rows.now (is_fresh l.set l.earlier l.renewed) p place));
}

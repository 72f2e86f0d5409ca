use Rattle.std.proofs.Common.{◌≡◌, ℕ, ◌/◌, ◌<◌, ◌≤◌, ◌↔◌, ◌⊎◌, IsTrue, length}
use Rattle.hq_bits.specs.Bits.{has}
use Rattle.hq_bits.proofs.insert_all.Given as goal

abbrev pub invariant-loop-place : goal.invariant-loop-place
invariant-loop-place l = record {
  len : length l.row ≡ length l.fn.row;
  has : (p : ℕ) → IsTrue (has l.row p) ↔ (IsTrue (has l.fn.row p) ⊎ ((p / 64 < l.place) × ((p < l.end) × (l.start ≤ p))));
}

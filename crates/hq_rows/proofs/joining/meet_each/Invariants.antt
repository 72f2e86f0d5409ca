use Rattle.std.proofs.Common.{◌≡◌, ℕ, ◌<◌, ◌↔◌, IsTrue, slice_get, Some}
use Rattle.hq_bits.specs.Bits.{has}
use Rattle.hq_rows.specs.Matrix.{Marks}
use Rattle.hq_rows.proofs.joining.meet_each.Given as goal

abbrev pub invariant-loop-slot : goal.invariant-loop-slot
invariant-loop-slot l = (p : ℕ) → IsTrue (has l.shared p) ↔ (IsTrue (has l.fn.shared p) × ((slot s : ℕ) → slot < l.slot-index → slice_get l.slots slot ≡ Some (Some s) → Marks l.completing p s))

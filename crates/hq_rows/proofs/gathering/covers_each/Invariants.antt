use Rattle.std.proofs.Common.{◌≡◌, ℕ, ◌+◌, ◌*◌, ◌<◌, ◌⊎◌, IsTrue}
use Rattle.std.specs.Int.{bit_at}
use Rattle.hq_bits.specs.Bits.{has}
use Rattle.hq_rows.specs.Matrix.{Marks}
use Rattle.hq_rows.proofs.gathering.covers_each.Given as goal

-- what is left of the word, or the set has what is before its packet
abbrev pub invariant-each : goal.invariant-each
invariant-each l = (bit p : ℕ) → bit < 64 → bit_at l.word bit ≡ 1 → Marks l.rows p (l.place * 64 + bit) → (bit_at l.rest bit ≡ 1) ⊎ IsTrue (has l.set p)

abbrev pub decreases-each : goal.decreases-each
decreases-each l = l.rest

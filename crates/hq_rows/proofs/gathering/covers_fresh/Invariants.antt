use Rattle.std.proofs.Common.{ℕ, ◌/◌, ◌<◌, IsTrue}
use Rattle.hq_bits.specs.Bits.{has}
use Rattle.hq_rows.specs.Matrix.{Marks}
use Rattle.hq_rows.specs.Uniting.{is_fresh}
use Rattle.hq_rows.proofs.gathering.covers_fresh.Given as goal

-- so it is of the packets of the first words
abbrev pub invariant-loop-place : goal.invariant-loop-place
invariant-loop-place l = (m p : ℕ) → m / 64 < l.place → Marks l.known.rows.now p m → IsTrue (is_fresh l.set l.earlier l.known.renewed.now m) → IsTrue (has l.set p)

use Rattle.std.proofs.Common.{ℕ, ◌/◌, ◌<◌, ◌⊎◌, IsTrue}
use Rattle.hq_bits.specs.Bits.{has}
use Rattle.hq_derive.specs.Gathered.{IsInitial}
use Rattle.hq_derive.specs.Needed.{IsNeeded}
use Rattle.hq_derive.proofs.there.row_is_noted.Given as goal

abbrev pub invariant-loop-place : goal.invariant-loop-place
invariant-loop-place l = (r : ℕ) → r / 64 < l.place → IsTrue (has l.needed r) → IsInitial l.ranks l.p r ⊎ IsNeeded l.noted l.p r

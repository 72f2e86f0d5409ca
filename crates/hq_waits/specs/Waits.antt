-- Which packets complete on which signal, and on a dependency of which packet.
use Rattle.std.specs.Prelude.{◌≡◌, ℕ, ◌+◌, ◌*◌, ◌↔◌, IsTrue, List}
use Rattle.hq_model.specs.Job.{Job, Dependency, Decrements}
use Rattle.hq_bits.specs.Bits.{has}

-- the row is the set of the packets that complete on the signal
pub record Completing (job : Job) (s : ℕ) (row : List ℕ) : Type 0 where
  pub are : (p : ℕ) → IsTrue (has row p) ↔ Decrements job p s

-- where the rows of all signals lie behind one another, of so many words each, e is the place of a packet in the
-- row of its signal
abbrev pub MarksCompletion : Job → ℕ → ℕ → Type 0
MarksCompletion job words e = (p : ℕ) × (s : ℕ) × (e ≡ s * (words * 64) + p) × Decrements job p s

-- e completes on a dependency of p
abbrev pub OfDependencies : Job → ℕ → ℕ → Type 0
OfDependencies job p e = (slot : ℕ) × (s : ℕ) × Dependency job p slot s × Decrements job e s

-- Sets of numbers as rows of bits.
use Rattle.std.specs.Prelude.{◌≡◌, IsTrue, ℕ, ◌<◌, ◌≤◌, ◌/◌, ◌%◌, Bool, true, false, List, length}
use Rattle.std.specs.Prelude.{slice_index, ◌==◌}
use Rattle.std.specs.Int.{bit_at}

-- whether p is in the set: bit p mod 64 of word p / 64
abbrev pub has : List ℕ → ℕ → Bool
has row p = bit_at (slice_index row (p / 64)) (p % 64) == 1

-- the first set has all that the second has
abbrev pub Covers : List ℕ → List ℕ → Type 0
Covers row other = (p : ℕ) → IsTrue (has other p) → IsTrue (has row p)

-- no word is less than it was
pub record Grown (old new : List ℕ) : Type 0 where
  pub len : length new ≡ length old
  pub words : (i : ℕ) → slice_index old i ≤ slice_index new i

-- n is the least number that both sets have
pub record IsFirstCommon (left right : List ℕ) (n : ℕ) : Type 0 where
  pub in_left : IsTrue (has left n)
  pub in_right : IsTrue (has right n)
  pub first : (i : ℕ) → i < n → IsTrue (has left i) → IsTrue (has right i) → ⊥

-- n is the least number from one on that is in the set
pub record IsFirstFrom (row : List ℕ) (from n : ℕ) : Type 0 where
  pub above : from ≤ n
  pub there : has row n ≡ true
  pub first : (i : ℕ) → from ≤ i → i < n → has row i ≡ false

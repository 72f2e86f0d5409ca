-- What stands before some packets, taken in together.
use Rattle.std.specs.Prelude.{◌≡◌, ℕ, ◌+◌, ◌*◌, ◌<◌, ◌⊎◌, ◌&&◌, not, Bool, IsTrue, List, [], length, slice_index_or}
use Rattle.std.specs.Global.{Vec}
use Rattle.std.specs.Int.{bit_at}
use Rattle.hq_bits.specs.Bits.{has}
use Rattle.hq_bits.specs.declared.TheConstants.{WORDS}
use Rattle.hq_rows.specs.Matrix.{row, Marks}

-- p is before one of those that the choice takes from a group of four packets, each by its bit
abbrev pub OfChoice : List (Vec ℕ) → ℕ → ℕ → ℕ → Type 0
OfChoice rows group choice p = (bit : ℕ) × (bit < 4) × (bit_at choice bit ≡ 1) × Marks rows p (group * 4 + bit)

-- p is before one of those that four choices take, each from the group behind that of the one before it
abbrev pub OfFour : List (Vec ℕ) → ℕ → ℕ → ℕ → ℕ → ℕ → ℕ → Type 0
OfFour rows group first second third fourth p =
    OfChoice rows group first p
    ⊎ (OfChoice rows (group + 1) second p ⊎ (OfChoice rows (group + 2) third p ⊎ OfChoice rows (group + 3) fourth p))

-- the union at a place, and none where there is no such place
abbrev pub union : List (List ℕ) → ℕ → List ℕ
union unions k = slice_index_or unions k []

-- p is in the union at a place
abbrev pub Unites : List (List ℕ) → ℕ → ℕ → Type 0
Unites unions p k = IsTrue (has (union unions k) p)

-- For each choice from each group there is the row of all that is before one of its packets. Rows have all their
-- words.
pub record AreUnions (rows : List (Vec ℕ)) (words : ℕ) (unions : List (List ℕ)) : Type 0 where
  pub full : words ≡ WORDS
  pub len : length unions ≡ words * 256
  pub width : (k : ℕ) → k < words * 256 → length (union unions k) ≡ words
  pub has_all : (group choice p : ℕ) → group < words * 16 → choice < 16 → OfChoice rows group choice p
      → Unites unions p (group * 16 + choice)
  pub only : (group choice p : ℕ) → group < words * 16 → choice < 16 → Unites unions p (group * 16 + choice)
      → OfChoice rows group choice p

-- Each row has so many words, and where there are unions they are those of the rows.
pub record CanUnite (rows : List (Vec ℕ)) (words : ℕ) (unions : List (List ℕ)) : Type 0 where
  pub width : (k : ℕ) → k < length rows → length (row rows k) ≡ words
  pub are : 0 < length unions → AreUnions rows words unions

-- p is before r by these rows, or by two of them
abbrev pub Through : List (Vec ℕ) → ℕ → ℕ → Type 0
Through rows p r = Marks rows p r ⊎ ((m : ℕ) × Marks rows p m × Marks rows m r)

-- The rows have all that the earlier ones give by two of them; and where a row has more than that, its packet is
-- noted as renewed.
pub record Stepped (earlier rows : List (Vec ℕ)) (renewed : List ℕ) : Type 0 where
  pub known : (p r : ℕ) → Marks earlier p r → Marks rows p r
  pub joined : (p m r : ℕ) → Marks earlier p m → Marks earlier m r → Marks rows p r
  pub rests : (p m : ℕ) → Marks rows p m → IsTrue (has renewed m) ⊎ Through earlier p m

-- m is in the row, and new there or renewed
abbrev pub is_fresh : List ℕ → List ℕ → List ℕ → ℕ → Bool
is_fresh row earlier renewed m = has row m && not (has earlier m && not (has renewed m))

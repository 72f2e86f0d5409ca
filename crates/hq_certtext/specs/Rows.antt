-- The texts of small numbers.
use Rattle.std.specs.Prelude.{◌≡◌, ℕ, ◌+◌, ◌/◌, ◌%◌, ◌≤◌, List, [], ◌∷◌, take}
use Rattle.std.specs.Fmt.{decimal}
use Rattle.hq_certtext.specs.declared.rows.Row.{Row}

-- three digits of a number below 1,000
abbrev pub three_digits : ℕ → List ℕ
three_digits n = (48 + n / 100) ∷ (48 + n / 10 % 10) ∷ (48 + n % 10) ∷ []

-- what the row of a number below 1,000 holds: the number behind a space, and its three digits, each with what fills
-- up four bytes
pub record IsRow (n : ℕ) (row : Row) : Type 0 where
  pub short : row.length ≤ 4
  pub word : take row.length row.word ≡ 32 ∷ decimal n
  pub digits : take 3 row.digits ≡ three_digits n

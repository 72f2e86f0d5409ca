-- Bytes that are compared as one number.
use Rattle.std.specs.Prelude.{ℕ, ◌/◌, ◌%◌, List, [], ◌∷◌}

-- the three bytes that stand in a number
abbrev pub three_bytes : ℕ → List ℕ
three_bytes n = (n % 256) ∷ (n / 256 % 256) ∷ (n / 65536) ∷ []

-- the four bytes that stand in a number
abbrev pub four_bytes : ℕ → List ℕ
four_bytes n = (n % 256) ∷ (n / 256 % 256) ∷ (n / 65536 % 256) ∷ (n / 16777216) ∷ []

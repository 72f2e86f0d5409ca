-- Numbers in words.
use Rattle.std.specs.Prelude.{◌≡◌, ℕ, ◌+◌, ◌-◌, ◌*◌, ◌^◌, ◌<◌, Bool, ◌&&◌, List, [], ◌∷◌, length, Option, Some}
use Rattle.std.specs.Prelude.{None, ◌==◌, nat_le, nat_lt, if◌then◌else◌}
use Rattle.std.specs.Fmt.{decimal}

-- the word is what the number prints: decimal digits without leading zeros
abbrev pub IsNumber : List ℕ → ℕ → Type 0
IsNumber word n = (word ≡ decimal n) × (n < 2 ^ 64)

-- 0 to 9
abbrev pub is_digit : ℕ → Bool
is_digit d = nat_le 48 d && nat_le d 57

-- the number n, with more digits behind it
abbrev pub read_on : ℕ → List ℕ → Option ℕ
read_on n [] = Some n
read_on n (d ∷ ds) = if is_digit d && nat_lt (n * 10 + (d - 48)) (2 ^ 64) then read_on (n * 10 + (d - 48)) ds else None

-- digits without a leading zero, at most 2 ^ 64 - 1
unfoldable pub number_of : List ℕ → Option ℕ
number_of [] = None
number_of (d ∷ ds) = if d == 48 then (if length ds == 0 then Some 0 else None) else read_on 0 (d ∷ ds)

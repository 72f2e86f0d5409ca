-- What a text is found to begin with: a number, in one pass over its digits.
use Rattle.std.specs.Prelude.{◌≡◌, ℕ, ◌^◌, ◌<◌, List, ◌∷◌, ◌++◌, length, take}
use Rattle.std.specs.Fmt.{decimal}

-- a number of a text: at most 4294967295
abbrev pub IsSmall : ℕ → Type 0
IsSmall n = n < 2 ^ 32

-- the text begins with so many digits, which are the number n, and goes on
pub record DigitsAhead (text : List ℕ) (n count : ℕ) : Type 0 where
  pub goes_on : count < length text
  pub are : take count text ≡ decimal n
  pub small : IsSmall n

-- the text begins with so many digits, of which the first isn't 0, and which are the number n
pub record DigitsSoFar (text : List ℕ) (n count : ℕ) : Type 0 where
  pub are : take count text ≡ decimal n
  pub some : 0 < n
  pub few : n < 10 ^ count

-- the text is the number n, a byte that ends it, and the rest
pub record NumberAhead (text : List ℕ) (n stop : ℕ) (rest : List ℕ) : Type 0 where
  pub is : text ≡ decimal n ++ stop ∷ rest
  pub small : IsSmall n

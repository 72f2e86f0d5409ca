-- Names.
use Rattle.std.specs.Prelude.{ℕ, Bool, false, ◌&&◌, ◌||◌, List, [], ◌∷◌, length, ◌==◌, nat_le, nat_lt, IsTrue}
use Rattle.std.specs.List.{list_all}

-- a to z
abbrev pub is_letter : ℕ → Bool
is_letter c = nat_le 97 c && nat_le c 122

-- a to z, 0 to 9 and underscore
abbrev pub is_name_char : ℕ → Bool
is_name_char c = is_letter c || (nat_le 48 c && nat_le c 57) || c == 95

-- 1 to 16 characters of a to z, 0 to 9 and underscore, the first a letter
unfoldable pub is_name : List ℕ → Bool
is_name [] = false
is_name (c ∷ cs) = is_letter c && list_all is_name_char cs && nat_lt (length cs) 16

-- the word may be a name
abbrev pub IsName : List ℕ → Type 0
IsName word = IsTrue (is_name word)

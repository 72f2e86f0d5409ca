-- Bytes of a job text.
use Rattle.std.specs.Prelude.{ℕ, Bool, ◌||◌, nat_lt}

-- other than 32 to 126
abbrev pub is_outside : ℕ → Bool
is_outside b = nat_lt b 32 || nat_lt 126 b

-- Pairs of digits as bytes.
use Rattle.std.specs.Prelude.{◌≡◌, ℕ, ◌+◌, ◌<◌, Bool, true, false, List, Ok, IsErr, slice_index, unwrap_or}
use Rattle.hex.specs.Hex.{decode_pairs, hex_digit_value}

-- the digits spell the bytes, or some are no digits
abbrev pub Decodes : List ℕ → List ℕ → Bool → Type 0
Decodes digits bytes true = decode_pairs 0 digits ≡ Ok bytes
Decodes digits bytes false = IsErr (decode_pairs 0 digits)

-- these are the values of so many digits from a place on; 255 stands for what is no digit
abbrev pub AreValues : List ℕ → ℕ → ℕ → List ℕ → Type 0
AreValues digits from count values = (k : ℕ) → k < count
    → slice_index values k ≡ unwrap_or (hex_digit_value (slice_index digits (from + k))) 255

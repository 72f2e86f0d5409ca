-- Bytes of numbers that follow each other, put over others.
use Rattle.std.specs.Prelude.{◌≡◌, ℕ, ◌-◌, true, List, Option, Some, None, nat_lt, slice_get}
use Rattle.std.specs.Prelude.{if◌then◌else◌}
use Rattle.hq_model.specs.Machine.{Copy}
use Rattle.hq_copies.specs.Copies.{a_copy}

-- the bytes of the numbers from start on, in their order
abbrev pub run_at : ℕ → List ℕ → ℕ → Option ℕ
run_at start bytes n = if nat_lt n start then None else slice_get bytes (n - start)

-- the upper byte, or where there is none, the lower
abbrev pub or_lower : Option ℕ → Option ℕ → Option ℕ
or_lower None lower = lower
or_lower (Some byte) lower = Some byte

-- the new bytes are the upper ones over the lower ones
abbrev pub Over : (ℕ → Option ℕ) → (ℕ → Option ℕ) → (ℕ → Option ℕ) → Type 0
Over upper lower new = (n : ℕ) → new n ≡ or_lower (upper n) (lower n)

-- a dirty copy of the byte, or where there is none, the copy below
abbrev pub dirty_over : Option ℕ → Option Copy → Option Copy
dirty_over None below = below
dirty_over (Some byte) below = Some (a_copy byte true)

-- the byte, or where there is none, the one below
abbrev pub byte_over : Option ℕ → ℕ → ℕ
byte_over None below = below
byte_over (Some byte) below = byte

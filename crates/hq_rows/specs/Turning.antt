-- Blocks of bits, 64 words of 64, and how one is turned round step by step.
use Rattle.std.specs.Prelude.{◌≡◌, ◌≢◌, ℕ, ◌+◌, ◌-◌, ◌*◌, ◌/◌, ◌%◌, ◌<◌, ◌≤◌, ◌⊎◌, List, slice_index}
use Rattle.std.specs.Int.{bit_at}
use Rattle.std.specs.Global.{Vec}
use Rattle.hq_bits.specs.declared.TheConstants.{WORDS}
use Rattle.hq_rows.specs.Matrix.{row}

-- bit j of word i
abbrev pub bit : List ℕ → ℕ → ℕ → ℕ
bit block i j = bit_at (slice_index block i) j

-- the second block is the first turned round
abbrev pub IsTurned : List ℕ → List ℕ → Type 0
IsTurned old new = (i j : ℕ) → i < 64 → j < 64 → bit new i j ≡ bit old j i

-- ---- one step

-- the binary digit of a number whose worth is the step
abbrev pub digit : ℕ → ℕ → ℕ
digit step i = i / step % 2

-- the first number with the second's digit in place of its own
abbrev pub with_digit : ℕ → ℕ → ℕ → ℕ
with_digit step i j = i + digit step j * step - digit step i * step

-- The numbers of words and of bits exchange this digit.
abbrev pub Exchanged : ℕ → List ℕ → List ℕ → Type 0
Exchanged step old new = (i j : ℕ) → i < 64 → j < 64 → bit new i j ≡ bit old (with_digit step i j) (with_digit step j i)

-- Two words of these numbers do, k and that a step further, and the others stay.
pub record ExchangedAt (step k : ℕ) (old new : List ℕ) : Type 0 where
  pub lower : (j : ℕ) → j < 64 → bit new k j ≡ bit old (with_digit step k j) (with_digit step j k)
  pub upper : (j : ℕ) → j < 64 → bit new (k + step) j ≡ bit old (with_digit step (k + step) j) (with_digit step j (k + step))
  pub others : (i : ℕ) → i ≢ k → i ≢ k + step → slice_index new i ≡ slice_index old i

-- The mask has the numbers below 64 whose digit is 0; the others are those, one step further. From each second
-- multiple of the step on as many as the step is have digit 0, and as many behind them 1.
pub record IsHalf (step mask : ℕ) : Type 0 where
  pub some : 0 < step
  pub few : step < 64
  pub bits : (j : ℕ) → j < 64 → bit_at mask j ≡ 1 - digit step j
  pub up : (j : ℕ) → j < 64 → digit step j ≡ 0 → (j + step < 64) × (digit step (j + step) ≡ 1)
  pub down : (j : ℕ) → j < 64 → digit step j ≡ 1 → (step ≤ j) × (digit step (j - step) ≡ 0)
  pub low : (group i : ℕ) → group < 32 / step → i < step
      → (group * 2 * step + step + i < 64) × (digit step (group * 2 * step + i) ≡ 0)
  pub high : (group i : ℕ) → group < 32 / step → i < step → digit step (group * 2 * step + step + i) ≡ 1
  pub all : 64 ≤ 32 / step * 2 * step

-- ---- rows and tables, a block at a time

-- The block has the words at a place of the rows from one on.
abbrev pub IsBlockOf : List (Vec ℕ) → ℕ → ℕ → List ℕ → Type 0
IsBlockOf rows first place block = (i : ℕ) → i < 64 → slice_index block i ≡ slice_index (row rows (first + i)) place

-- where a table has the word of a part of a packet
abbrev pub word_of : List ℕ → ℕ → ℕ → ℕ
word_of table p part = slice_index table (p * WORDS + part)

-- The packets of a place have the block's words for a part, and all else is as it was.
pub record HasBlock (block : List ℕ) (place part : ℕ) (old new : List ℕ) : Type 0 where
  pub there : (i : ℕ) → i < 64 → word_of new (place * 64 + i) part ≡ slice_index block i
  pub others : (p c : ℕ) → c < WORDS → (p / 64 ≢ place) ⊎ (c ≢ part) → word_of new p c ≡ word_of old p c

-- For the packets of a place and the rows of a part the table has the rows turned round.
abbrev pub IsPartTurned : List (Vec ℕ) → ℕ → ℕ → List ℕ → Type 0
IsPartTurned rows place part table = (i r : ℕ) → i < 64 → r < 64
    → bit_at (word_of table (place * 64 + i) part) r ≡ bit_at (slice_index (row rows (part * 64 + r)) place) i

-- So it is now, and all else is as it was.
pub record PartTurned (rows : List (Vec ℕ)) (place part : ℕ) (old new : List ℕ) : Type 0 where
  pub done : IsPartTurned rows place part new
  pub others : (p c : ℕ) → c < WORDS → (p / 64 ≢ place) ⊎ (c ≢ part) → word_of new p c ≡ word_of old p c

-- So it is for all rows, and for other packets all is as it was.
pub record PlaceTurned (rows : List (Vec ℕ)) (place : ℕ) (old new : List ℕ) : Type 0 where
  pub done : (part : ℕ) → part < WORDS → IsPartTurned rows place part new
  pub others : (p c : ℕ) → c < WORDS → p / 64 ≢ place → word_of new p c ≡ word_of old p c

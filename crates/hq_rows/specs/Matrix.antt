-- Rows of bits as relations between packets, by number: the row of a packet has those before it.
use Rattle.std.specs.Prelude.{◌≡◌, ◌≢◌, ℕ, ◌+◌, ◌-◌, ◌/◌, ◌^◌, ◌∷◌, ◌*◌, ◌<◌, ◌≤◌, ◌↔◌, IsTrue, List, [], map}
use Rattle.std.specs.Prelude.{length, slice_index, slice_index_or}
use Rattle.std.specs.Global.{Vec}
use Rattle.hq_bits.specs.Bits.{has}
use Rattle.hq_bits.specs.declared.TheConstants.{WIDTH, WORDS}

-- the row of r, and none where there is no such packet
abbrev pub row : List (Vec ℕ) → ℕ → List ℕ
row rows r = slice_index_or (map (λ v. v.items) rows) r []

-- p is in the row of r
abbrev pub Marks : List (Vec ℕ) → ℕ → ℕ → Type 0
Marks rows p r = IsTrue (has (row rows r) p)

-- n rows, each of as many words, with room for n packets
pub record Square (n words : ℕ) (rows : List (Vec ℕ)) : Type 0 where
  pub height : length rows ≡ n
  pub width : (r : ℕ) → r < n → length (row rows r) ≡ words
  pub room : n ≤ words * 64
  pub few : words ≤ WORDS

-- how many words a row has
abbrev pub words_for : ℕ → ℕ
words_for n = (n + 63) / 64

-- so many words a row
abbrev pub IsSquare : ℕ → List (Vec ℕ) → Type 0
IsSquare n rows = Square n (words_for n) rows

-- a row of the first is another in the second
pub record Differ (left right : List (Vec ℕ)) : Type 0 where
  pub r : ℕ
  pub low : r < length left
  pub apart : row left r ≢ row right r
  pub small : (i : ℕ) → slice_index (row left r) i < 2 ^ 64

-- ---- rounds

-- the rows of round k
abbrev pub matrix : List (Vec (Vec ℕ)) → ℕ → List (Vec ℕ)
matrix rounds k = slice_index_or (map (λ v. v.items) rounds) k []

-- the rows of the last round, and none where there is no round
abbrev pub last : List (Vec (Vec ℕ)) → List (Vec ℕ)
last rounds = matrix rounds (length rounds - 1)

-- those of the round before the last, and none where there is none
abbrev pub earlier : List (Vec (Vec ℕ)) → List (Vec ℕ)
earlier rounds = slice_index_or ([] ∷ map (λ v. v.items) rounds) (length rounds - 1) []

-- ---- how far words are from their greatest value

-- how much these words lack of 2^64, added up
abbrev pub lag_of_words : List ℕ → ℕ
lag_of_words [] = 0
lag_of_words (word ∷ words) = (2 ^ 64 - word) + lag_of_words words

-- how much all words of these rows lack of 2^64, added up
abbrev pub lag_of_rows : List (Vec ℕ) → ℕ
lag_of_rows [] = 0
lag_of_rows (row ∷ rows) = lag_of_words row.items + lag_of_rows rows

-- of the last round
abbrev pub lag : List (Vec (Vec ℕ)) → ℕ
lag rounds = lag_of_rows (last rounds)

-- ---- the first mark

-- in no round is p in the row of r
abbrev pub IsMarkedNowhere : List (Vec (Vec ℕ)) → ℕ → ℕ → Type 0
IsMarkedNowhere rounds p r = (k : ℕ) → k < length rounds → Marks (matrix rounds k) p r → ⊥

-- k is the first round in which p is in the row of r
pub record IsMarkedFirst (rounds : List (Vec (Vec ℕ))) (p r k : ℕ) : Type 0 where
  pub low : k < length rounds
  pub there : Marks (matrix rounds k) p r
  pub first : (j : ℕ) → j < k → Marks (matrix rounds j) p r → ⊥

-- ---- the rows turned round: what a packet is before

-- the table has r at p times the width, for each two packets of which p is in the row of r
pub record Turned (rows : List (Vec ℕ)) (table : List ℕ) : Type 0 where
  pub len : length table ≡ WIDTH * WORDS
  pub exact : (p r : ℕ) → p < WIDTH → r < WIDTH → IsTrue (has table (p * WIDTH + r)) ↔ Marks rows p r

-- so it is for each round but the last
pub record AreTurned (rounds : List (Vec (Vec ℕ))) (tables : List (Vec ℕ)) : Type 0 where
  pub len : length tables + 1 ≡ length rounds
  pub each : (k : ℕ) → k < length tables → Turned (matrix rounds k) (row tables k)

-- m is the least packet that p is before by these rows, and that is before r
pub record IsMarkedBetween (rows : List (Vec ℕ)) (p r m : ℕ) : Type 0 where
  pub first : Marks rows p m
  pub second : Marks rows m r
  pub least : (i : ℕ) → i < m → Marks rows p i → Marks rows i r → ⊥

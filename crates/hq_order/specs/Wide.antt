-- Rows and tables that are worked out apart from one another.
use Rattle.std.specs.Prelude.{◌≡◌, ℕ, ◌+◌, ◌*◌, ◌≤◌, ◌↔◌, IsTrue, List, [], ◌∷◌, length}
use Rattle.std.specs.Global.{Vec}
use Rattle.hq_bits.specs.Bits.{has, Grown}
use Rattle.hq_bits.specs.declared.TheConstants.{WIDTH, WORDS}
use Rattle.hq_rows.specs.declared.gathering.Known.{Known}
use Rattle.hq_rows.specs.Matrix.{row, words_for, IsSquare, Turned}
use Rattle.hq_rows.specs.Uniting.{CanUnite, Stepped, Through}

-- so it is with each of these rows, the first of which is that of packet r
abbrev pub Each : (ℕ → List ℕ → Type 0) → ℕ → List (Vec ℕ) → Type 0
Each Is r [] = Unit {0}
Each Is r (x ∷ rows) = Is r x.items × Each Is (r + 1) rows

-- it is the row of r
abbrev pub IsCopy : List (Vec ℕ) → ℕ → List ℕ → Type 0
IsCopy known r new = new ≡ row known r

-- Each row of the next round can be worked out from these by itself.
pub record CanStep (known : Known) : Type 0 where
  pub square : IsSquare (length known.rows.now) known.rows.now
  pub unions : CanUnite known.rows.now (words_for (length known.rows.now)) known.unions.now
  pub stepped : Stepped known.earlier.now known.rows.now known.renewed.now

-- These rows are the known ones from packet r on, as far as they go.
pub record AreCopies (known : Known) (r : ℕ) (rows : List (Vec ℕ)) : Type 0 where
  pub few : r + length rows ≤ length known.rows.now
  pub each : Each (IsCopy known.rows.now) r rows

-- It has what is before r by these rows, or by two of them.
pub record IsStep (known : List (Vec ℕ)) (r : ℕ) (new : List ℕ) : Type 0 where
  pub grown : Grown (row known r) new
  pub exact : (p : ℕ) → IsTrue (has new p) ↔ Through known p r

-- each table has all its words
abbrev pub AreBare : List (Vec ℕ) → Type 0
AreBare [] = Unit {0}
AreBare (table ∷ tables) = (length table.items ≡ WIDTH * WORDS) × AreBare tables

-- each table is the round of its place turned round
abbrev pub EachTurned : List (Vec (Vec ℕ)) → List (Vec ℕ) → Type 0
EachTurned rounds [] = Unit {0}
EachTurned [] (table ∷ tables) = Unit {0}
EachTurned (rows ∷ rounds) (table ∷ tables) = Turned rows.items table.items × EachTurned rounds tables

-- Lines taken in one behind another: what they leave, and the first that is refused.
use Rattle.std.specs.Prelude.{◌≡◌, ℕ, ◌+◌, List, [], ◌∷◌, ◌++◌, length, Option, Some, Result, Ok, Err}
use Rattle.hq_text.specs.Lines.{words_of}

-- what the words of a line leave behind a state, or why the line is refused
abbrev pub Adds : Type 0 → Type 0 → Type 0
Adds S R = S → List (List ℕ) → Result S R

-- The line is admitted behind the state, and leaves the new one.
abbrev pub Admits : {S R : Type 0} → Adds S R → S → List ℕ → S → Type 0
Admits added s line new = added s (words_of line) ≡ Ok new

-- The line is refused behind the state.
abbrev pub Refuses : {S R : Type 0} → Adds S R → S → List ℕ → R → Type 0
Refuses added s line why = added s (words_of line) ≡ Err why

-- Lines are admitted one behind another.
abbrev pub AdmitsAll : {S R : Type 0} → Adds S R → S → List (List ℕ) → S → Type 0
AdmitsAll added s [] new = new ≡ s
AdmitsAll {S} {R} added s (line ∷ lines) new = (mid : S) × Admits added s line mid × AdmitsAll added mid lines new

-- Of these lines, before which there are so many, the line of this number is refused, behind admitted ones.
pub record FirstRefused {S R : Type 0} (added : Adds S R) (old : S) (lines : List (List ℕ)) (before number : ℕ)
    (why : R) : Type 0 where
  pub front : List (List ℕ)
  pub line : List ℕ
  pub rest : List (List ℕ)
  pub mid : S
  pub whole : lines ≡ front ++ line ∷ rest
  pub admitted : AdmitsAll added old front mid
  pub refused : Refuses added mid line why
  pub counted : number ≡ before + length front + 1

-- The first fault of a text: of the first line that is refused, counted from 1; or, where all are admitted, what is
-- wrong with a text that ends so, told of the line behind the last.
pub data FirstFault {S R : Type 0} (added : Adds S R) (unended : S → Option R) (start : S) (lines : List (List ℕ))
    (number : ℕ) (why : R) : Type 0 where
  faulty : FirstRefused added start lines 0 number why → FirstFault added unended start lines number why
  endless : (mid : S) → AdmitsAll added start lines mid → unended mid ≡ Some why → number ≡ length lines + 1
      → FirstFault added unended start lines number why

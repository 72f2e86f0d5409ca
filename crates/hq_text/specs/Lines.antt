-- Lines and words of a text.
use Rattle.std.specs.Prelude.{ℕ, Bool, List, [], ◌∷◌, ◌==◌}
use Rattle.std.specs.List.{slice_split}

-- whether the byte is a space
abbrev pub is_space : ℕ → Bool
is_space b = b == 32

-- whether the byte is a line feed
abbrev pub is_line_feed : ℕ → Bool
is_line_feed b = b == 10

-- a line is cut at every space
abbrev pub words_of : List ℕ → List (List ℕ)
words_of line = slice_split is_space line

-- the lines without the last one, where that is empty
abbrev pub without_empty_last : List (List ℕ) → List (List ℕ)
without_empty_last [] = []
without_empty_last ([] ∷ []) = []
without_empty_last ((b ∷ bs) ∷ []) = (b ∷ bs) ∷ []
without_empty_last (x ∷ y ∷ more) = x ∷ without_empty_last (y ∷ more)

-- a line ends with a line feed, and the last may lack it
abbrev pub lines_of : List ℕ → List (List ℕ)
lines_of text = without_empty_last (slice_split is_line_feed text)

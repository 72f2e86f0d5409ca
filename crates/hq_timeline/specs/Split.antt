-- A line's words as the code holds them: up to three, and what stands behind them.
use Rattle.std.specs.Prelude.{ℕ, List, [], ◌∷◌, Option, Some, None}
use Rattle.hq_text.specs.Lines.{words_of}
use Rattle.hq_timeline.specs.declared.words.Words.{Words}
use Rattle.hq_timeline.specs.declared.words.Words.TheVariants as cut

-- the words of what stands behind a word, if anything does
abbrev pub words_behind : {W : Type 0} → (W → List ℕ) → Option W → List (List ℕ)
words_behind view None = []
words_behind view (Some behind) = words_of (view behind)

-- all of them
abbrev pub list_of : Words → List (List ℕ)
list_of (cut.One a) = a.now ∷ []
list_of (cut.Two a b) = a.now ∷ b.now ∷ []
list_of (cut.Three a b c) = a.now ∷ b.now ∷ c.now ∷ []
list_of (cut.More a b c behind) = a.now ∷ b.now ∷ c.now ∷ words_of behind.now

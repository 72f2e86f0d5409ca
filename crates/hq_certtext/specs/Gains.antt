-- A text that goes to a writer by way of a buffer.
use Rattle.std.specs.Prelude.{ℕ, List, Option, take}
use Rattle.std.specs.Io.KnownBytes.{Appends, append_known}

-- What the writer holds (w, then v), with what stands in the buffer behind it up to a place (old up to i, then new
-- up to j), grew by the text.
pub record Gains (w : Option (List ℕ)) (old : List ℕ) (i : ℕ) (v : Option (List ℕ)) (new : List ℕ) (j : ℕ)
    (text : List ℕ) : Type 0 where
  pub gained : Appends (append_known w (take i old)) (append_known v (take j new)) text

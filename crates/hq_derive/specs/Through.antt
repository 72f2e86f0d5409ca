-- Lines that follow through two others each.
use Rattle.std.specs.Prelude.{◌≡◌, ℕ, ◌+◌, ◌<◌, ◌≤◌, ◌++◌, List, [], Some, length, map, slice_get}
use Rattle.hq_model.specs.Certificate as model
use Rattle.hq_model.specs.Certificate.{Says}
use Rattle.hq_derive.specs.declared.short.Short.{Short}
use Rattle.hq_derive.specs.declared.short.TheConstants.{THROUGH}
use Rattle.hq_derive.specs.Short.{form_of, p_of, r_of, first_of, second_of, line_in}

-- the lines that these numbers are for, where none is kept as a whole
abbrev pub lines_by : List Short → List model.Line
lines_by shorts = map (line_in []) shorts

-- Line k of those that stand behind others follows through two that stand ahead of it: by them a packet comes before
-- one that comes before the other.
pub record IsThrough (ahead : List model.Line) (shorts : List Short) (k : ℕ) : Type 0 where
  pub short : Short
  pub there : slice_get shorts k ≡ Some short
  pub form : form_of short ≡ THROUGH
  pub middle : ℕ
  pub first : Says (ahead ++ lines_by shorts) (length ahead + k) (first_of short) (p_of short) middle
  pub second : Says (ahead ++ lines_by shorts) (length ahead + k) (second_of short) middle (r_of short)

-- so do those from one on, up to another
abbrev pub AreThrough : List model.Line → List Short → ℕ → ℕ → Type 0
AreThrough ahead shorts from to = (k : ℕ) → from ≤ k → k < to → IsThrough ahead shorts k

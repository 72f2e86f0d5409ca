-- What is said of all pairs of packets that conflict.
use Rattle.std.specs.Prelude.{◌≡◌, ℕ, suc, ◌-◌, ◌<◌, ◌||◌, ◌==◌, Bool, false, IsTrue, nat_lt, nat_le, List, []}
use Rattle.std.specs.Prelude.{◌++◌, length, if◌then◌else◌}
use Rattle.hq_job.specs.Value.{JobValue}
use Rattle.hq_model.specs.Job.{Job}
use Rattle.hq_graph.specs.Graph.{Is, Then}
use Rattle.hq_fence.specs.Judgement.{HaveConflict}
use Rattle.hq_explain.specs.Explain.{PairText}
use Rattle.hq_explain.specs.Texts.{left_line, none_line}

-- two packets that conflict, the lower number first
pub record IsPair (order : Job) (a b : ℕ) : Type 0 where
  pub above : a < b
  pub conflict : HaveConflict order a b

-- whether a pair is told of that comes behind so many: all are, or the first hundred
abbrev pub is_told : Bool → ℕ → Bool
is_told all count = all || nat_lt count 100

-- In number order up to row a, and in this row up to b, so many pairs conflict, and the text tells of those of them
-- that are to be told of.
pub data Told (job : JobValue) (order : Job) (all : Bool) : ℕ → ℕ → ℕ → List ℕ → Type 0 where
  start : Told job order all 0 0 0 []
  row : {a count : ℕ} {text : List ℕ} → Told job order all a (length order.packets) count text
      → Told job order all (suc a) 0 count text
  apart : {a b count : ℕ} {text : List ℕ} → ¬ IsPair order a b → Told job order all a b count text
      → Told job order all a (suc b) count text
  said : {a b count : ℕ} {text : List ℕ} (more : List ℕ) (ordered : Bool) → IsPair order a b
      → IsTrue (is_told all count)
      → PairText job order a b ordered more → Told job order all a b count text
      → Told job order all a (suc b) (suc count) (text ++ more)
  left : {a b count : ℕ} {text : List ℕ} → IsPair order a b → is_told all count ≡ false
      → Told job order all a b count text
      → Told job order all a (suc b) (suc count) text

-- what closes the pairs: that there are none, or how many weren't told of
abbrev pub closing_text : Bool → ℕ → List ℕ
closing_text all count = if count == 0 then none_line else
    (if all || nat_le count 100 then [] else left_line (count - 100))

-- what is told of all pairs that conflict, or of the first hundred, and what closes them
abbrev pub AllText : JobValue → Job → Bool → List ℕ → Type 0
AllText job order all text = (count : ℕ)
    × Then (Told job order all (length order.packets) 0 count) (Is (closing_text all count)) text

-- what was told of until memory ran out: whole pairs, in their order
abbrev pub Broken : JobValue → Job → List ℕ → Type 0
Broken job order text = (all : Bool) × (a : ℕ) × (b : ℕ) × (count : ℕ) × Told job order all a b count text

-- ---- steps

-- The text tells of a and b, and that makes n pairs with those before.
abbrev pub PairTold : JobValue → Job → Bool → ℕ → ℕ → ℕ → ℕ → List ℕ → Type 0
PairTold job order all a b count n text = (before : List ℕ) → Told job order all a b count before
    → Told job order all a (suc b) n (before ++ text)

-- so it does of row a up to b
abbrev pub RowTold : JobValue → Job → Bool → ℕ → ℕ → ℕ → ℕ → List ℕ → Type 0
RowTold job order all a count b n text = (before : List ℕ) → Told job order all a 0 count before
    → Told job order all a b n (before ++ text)

-- and where memory ran out within the row
abbrev pub RowBroken : JobValue → Job → Bool → ℕ → ℕ → List ℕ → Type 0
RowBroken job order all a count text = (b : ℕ) × (n : ℕ) × RowTold job order all a count b n text

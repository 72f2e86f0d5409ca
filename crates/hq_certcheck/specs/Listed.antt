-- The first line, and the first pair line, that doesn't hold.
use Rattle.std.specs.Prelude.{◌≡◌, ℕ, ◌+◌, ◌<◌, ◌≤◌, ◌⊎◌, List, [], ◌∷◌, length, All}
use Rattle.std.specs.Prelude.{Option, Some, slice_get, MatchOption, IfSome}
use Rattle.hq_packet.specs.declared.packet.Scope.TheVariants as scope
use Rattle.hq_model.specs.Job.{Job, Decrements}
use Rattle.hq_model.specs.Fence.{need}
use Rattle.hq_model.specs.Certificate.{Line, Pair, Cites, LineHolds, LinesHold, PairHolds}

-- p is, or comes before, a packet that completes on the signal, as the branch says.
abbrev pub HoldsFor : Job → List Line → ℕ → ℕ → ℕ → Option ℕ → Type 0
HoldsFor job lines limit p s branch = (d : ℕ) × Decrements job d s × Cites lines limit branch p d

-- Line k is the least that doesn't hold.
pub record FirstBadLine (job : Job) (lines : List Line) (k : ℕ) : Type 0 where
  pub there : k < length lines
  pub bad : ¬ LineHolds job lines k
  pub first : (j : ℕ) → j < k → LineHolds job lines j

-- These lines stand in the list from this place on.
abbrev pub StandAt : List Line → ℕ → List Line → Type 0
StandAt lines from some = (i : ℕ) (line : Line) → slice_get some i ≡ Some line → slice_get lines (from + i) ≡ Some line

-- so many lines, from this one on
pub record Block : Type 0 where
  pub from : ℕ
  pub count : ℕ

-- line k is one of them
abbrev pub IsWithin : Block → ℕ → Type 0
IsWithin block k = (block.from ≤ k) × (k < block.from + block.count)

-- line k is one of the lines of these blocks
abbrev pub IsLeft : List Block → ℕ → Type 0
IsLeft [] k = ⊥
IsLeft (block ∷ blocks) k = IsWithin block k ⊎ IsLeft blocks k

-- what was found stands at this place or before it
abbrev pub IsUpTo : Option ℕ → ℕ → Type 0
IsUpTo found k = MatchOption found ⊥ (λ b. b ≤ k)

-- What was found, if anything was, is a line that doesn't hold.
abbrev pub IsBad : Job → List Line → Option ℕ → Type 0
IsBad job lines found = IfSome found (λ b. (b < length lines) × ¬ LineHolds job lines b)

-- Each line of the block holds, unless a line of it that doesn't was found at its place or before it.
pub record BadLineOf (job : Job) (lines : List Line) (block : Block) (found : Option ℕ) : Type 0 where
  pub bad : IsBad job lines found
  pub here : IfSome found (IsWithin block)
  pub others : (k : ℕ) → IsWithin block k → LineHolds job lines k ⊎ IsUpTo found k

-- The same of all lines but those of blocks that are left to be checked.
pub record BadLineBut (job : Job) (lines : List Line) (left : List Block) (found : Option ℕ) : Type 0 where
  pub bad : IsBad job lines found
  pub others : (k : ℕ) → k < length lines → IsLeft left k ⊎ (LineHolds job lines k ⊎ IsUpTo found k)

-- The least line that doesn't hold is this one, or all hold.
abbrev pub BadLineIs : Job → List Line → Option ℕ → Type 0
BadLineIs job lines found = MatchOption found (LinesHold job lines) (FirstBadLine job lines)

-- A fence between p and r needs to reach the whole system.
abbrev pub NeedsSystem : Job → ℕ → ℕ → Type 0
NeedsSystem job p r = need job p r ≡ scope.System

-- Pair line k holds.
abbrev pub PairHoldsAt : Job → List Line → List Pair → ℕ → Type 0
PairHoldsAt job lines pairs k = (pair : Pair) → slice_get pairs k ≡ Some pair → PairHolds job lines pair

-- Pair line k is the first that doesn't.
pub record FirstBadPlace (job : Job) (lines : List Line) (pairs : List Pair) (k : ℕ) : Type 0 where
  pub there : k < length pairs
  pub bad : ¬ PairHoldsAt job lines pairs k
  pub first : (j : ℕ) → j < k → PairHoldsAt job lines pairs j

-- The first of the pair lines that don't hold, in their order, names p and r.
pub record FirstBadPair (job : Job) (lines : List Line) (pairs : List Pair) (p r : ℕ) : Type 0 where
  pub k : ℕ
  pub pair : Pair
  pub there : slice_get pairs k ≡ Some pair
  pub first_is : pair.p ≡ p
  pub second_is : pair.r ≡ r
  pub bad : ¬ PairHolds job lines pair
  pub first : (j : ℕ) (other : Pair) → j < k → slice_get pairs j ≡ Some other → PairHolds job lines other

-- The first pair line that doesn't hold names these packets, or all hold.
abbrev pub BadPairIs : Job → List Line → List Pair → Option (ℕ × ℕ) → Type 0
BadPairIs job lines pairs found = MatchOption found (All (PairHolds job lines) pairs)
    (λ pair. FirstBadPair job lines pairs pair.0 pair.1)

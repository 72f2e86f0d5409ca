-- A timeline's lines as far as they came.
use Rattle.std.specs.Prelude.{◌≡◌, ℕ, List, length}
use Rattle.hq_text.specs.LineByLine.{AdmitsAll}
use Rattle.hq_timeline.specs.declared.progress.Progress.{Progress}
use Rattle.hq_timeline.specs.DraftView.{state_of}
use Rattle.hq_timeline.specs.TextStates.{start, added}

-- these lines were taken in
pub record HasTaken (lines : List (List ℕ)) (p : Progress) : Type 0 where
  pub counted : p.count ≡ length lines
  pub admitted : AdmitsAll added start lines (state_of p.draft)

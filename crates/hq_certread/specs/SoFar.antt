-- A certificate's lines as far as they came.
use Rattle.std.specs.Prelude.{◌≡◌, ℕ, ◌+◌, ◌≤◌, ◌⊎◌, List, [], ◌++◌, length, drop, Result, Ok, Err}
use Rattle.hq_text.specs.LineByLine.{AdmitsAll}
use Rattle.hq_text.specs.Lines.{lines_of}
use Rattle.hq_model.specs.Certificate as model
use Rattle.hq_certread.specs.declared.fault.CertFault.{CertFault}
use Rattle.hq_certread.specs.declared.draft.Stage.{Stage}
use Rattle.hq_certread.specs.declared.draft.Stage.TheVariants as stage
use Rattle.hq_certread.specs.declared.progress.Progress.{Progress}
use Rattle.hq_certread.specs.declared.ahead.Ahead.{Ahead}
use Rattle.hq_certread.specs.Ahead.{lines_ahead, pairs_ahead}
use Rattle.hq_certread.specs.DraftView.{behind, kept_of}
use Rattle.hq_certread.specs.Gives.{ReadOf, no_memory}
use Rattle.hq_certread.specs.TextFaults.{start, added, FirstFault}

-- the lines of the certificate that were read and weren't let go
abbrev pub lines_in : Progress → List model.Line
lines_in p = (kept_of p.draft).lines

-- the pair lines that were read and weren't let go
abbrev pub pairs_in : Progress → List model.Pair
pairs_in p = (kept_of p.draft).pairs

-- These lines were taken in. The first of the certificate's lines that they say, these, and the first of its pair
-- lines, these, were let go.
pub record HasTaken (lines : List (List ℕ)) (front : List model.Line) (gone : List model.Pair) (p : Progress)
    : Type 0 where
  pub counted : p.count ≡ length lines
  pub numbered : p.draft.gone ≡ length front
  pub admitted : AdmitsAll added start lines (behind front gone (kept_of p.draft))

-- the lines that are left are the same as before, unless no pair line had been read: none was let go, and none was left
abbrev pub LinesStand : List model.Pair → Progress → Progress → Type 0
LinesStand gone old new = ((gone ++ pairs_in old) ≡ []) ⊎ (lines_in new ≡ lines_in old)

-- once this may come next, no more lines can come
abbrev pub IsPast : Stage → Type 0
IsPast stage.Head = ⊥
IsPast stage.Order = ⊥
IsPast stage.Lines = ⊥
IsPast stage.Pairs = Unit {0}
IsPast stage.Ended = Unit {0}

-- no more lines can come: a pair line came, or the end
abbrev pub IsClosed : Progress → Type 0
IsClosed p = IsPast p.draft.stage

-- where no more lines could come, that is still so, and the lines that are left are the same
abbrev pub StaysClosed : Progress → Progress → Type 0
StaysClosed old new = IsClosed old → IsClosed new × (lines_in new ≡ lines_in old)

-- What was read ahead can be taken in next: what it was read as, lines or pair lines, is what may come, and as many
-- lines stand before it, let go or left, as it was read behind.
pub record CanPass (p : Progress) (a : Ahead) : Type 0 where
  pub next : p.draft.stage ≡ a.next
  pub before : p.draft.gone + length (lines_in p) ≡ a.before

-- What was read ahead of the text was taken in behind these lines, of which these lines of the certificate and these
-- pair lines were let go; so were those that were read ahead. The rest of the text begins at this byte. Lines are read
-- ahead only where no pair line came.
pub record HasPassed (text : List ℕ) (a : Ahead) (lines : List (List ℕ)) (front : List model.Line)
    (gone : List model.Pair) (at : ℕ) (old new : Progress) : Type 0 where
  pub within : at ≤ length text
  pub more : List (List ℕ)
  pub whole : lines_of text ≡ more ++ lines_of (drop at text)
  pub before : length front ≡ a.before
  pub taken : HasTaken (lines ++ more) (front ++ lines_ahead a) (gone ++ pairs_ahead a) new
  pub no_lines : lines_in new ≡ []
  pub no_pairs : pairs_in new ≡ []
  pub stand : (gone ≡ []) ⊎ (lines_ahead a ≡ [])
  pub closed : IsClosed old → IsClosed new × (lines_ahead a ≡ [])

-- what reading answers, where these lines and these pair lines were let go, is the certificate with them, or the first
-- fault
abbrev pub ReadBehind : List model.Line → List model.Pair → Result model.Certificate CertFault → List (List ℕ) → Type 0
ReadBehind front gone (Ok c) lines =
    ReadOf (Ok (record { order = c.order; lines = front ++ c.lines; pairs = gone ++ c.pairs })) lines
ReadBehind front gone (Err f) lines = ReadOf (Err f) lines

-- a text of these lines has this first fault, unless memory ran out
abbrev pub HasFault : List (List ℕ) → CertFault → Type 0
HasFault lines f = (f ≡ no_memory) ⊎ FirstFault lines f

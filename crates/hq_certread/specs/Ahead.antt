-- What a text begins with, whatever stands in front of the text.
use Rattle.std.specs.Prelude.{◌≡◌, ℕ, ◌+◌, ◌≤◌, List, [], ◌++◌, length, drop, map}
use Rattle.hq_text.specs.LineByLine.{AdmitsAll}
use Rattle.hq_text.specs.Lines.{lines_of}
use Rattle.hq_cert.specs.View.{line_of, pair_of}
use Rattle.hq_model.specs.Certificate as model
use Rattle.hq_certread.specs.declared.ahead.Ahead.{Ahead}
use Rattle.hq_certread.specs.declared.draft.Stage.{Stage}
use Rattle.hq_certread.specs.declared.draft.Stage.TheVariants as stage
use Rattle.hq_certread.specs.TextFaults.{State, added}

-- what lines leave, with more lines and more pair lines behind theirs
abbrev pub with_more : State → List model.Line → List model.Pair → State
with_more s lines pairs = record
    { stage = s.stage; chained = s.chained; order = s.order; lines = s.lines ++ lines; pairs = s.pairs ++ pairs }

-- The text begins with so many lines that say these lines of a certificate and these pair lines, and the rest is left.
-- They are admitted wherever such may come next and so many lines stand before them.
pub record BeginsWith (lines : List model.Line) (pairs : List model.Pair) (next : Stage) (before : ℕ)
    (text rest : List ℕ) (count : ℕ) : Type 0 where
  pub front : List (List ℕ)
  pub whole : lines_of text ≡ front ++ lines_of rest
  pub counted : length front ≡ count
  pub short : count + length rest ≤ length text
  pub read : List ℕ
  pub cut : text ≡ read ++ rest
  pub admitted : (s : State) → s.stage ≡ next → length s.lines ≡ before
      → AdmitsAll added s front (with_more s lines pairs)

-- the lines that a text begins with, behind so many, were put behind those that were there
pub record LeadingLines (before : ℕ) (text rest : List ℕ) (count : ℕ) (old new : List model.Line) : Type 0 where
  pub more : List model.Line
  pub behind : new ≡ old ++ more
  pub begins : BeginsWith more [] stage.Lines before text rest count

-- the same of pair lines behind so many lines
pub record LeadingPairs (before : ℕ) (text rest : List ℕ) (count : ℕ) (old new : List model.Pair) : Type 0 where
  pub more : List model.Pair
  pub behind : new ≡ old ++ more
  pub begins : BeginsWith [] more stage.Pairs before text rest count

-- the lines that were read ahead
abbrev pub lines_ahead : Ahead → List model.Line
lines_ahead a = map line_of a.lines.items

-- the pair lines that were read ahead
abbrev pub pairs_ahead : Ahead → List model.Pair
pairs_ahead a = map pair_of a.pairs.items

-- this was read ahead of the text, which it is the first so many bytes of
pub record IsAhead (text : List ℕ) (a : Ahead) : Type 0 where
  pub within : a.bytes ≤ length text
  pub begins : BeginsWith (lines_ahead a) (pairs_ahead a) a.next a.before text (drop a.bytes text) a.count

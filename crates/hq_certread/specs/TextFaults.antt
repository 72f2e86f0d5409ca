-- What the lines before a line leave, and the first faulty line of a text.
use Rattle.std.specs.Prelude.{◌≡◌, ℕ, Bool, true, false, ◌&&◌, List, [], ◌∷◌, ◌++◌, length, Option, Some, None}
use Rattle.std.specs.Prelude.{Result, Ok, Err, codes, if◌then◌else◌}
use Rattle.std.specs.Str.{bytes_eq}
use Rattle.hq_text.specs.LineByLine as text
use Rattle.hq_text.specs.InTurn.{◌>>=◌}
use Rattle.hq_model.specs.Certificate as model
use Rattle.hq_certread.specs.declared.fault.CertReason.{CertReason}
use Rattle.hq_certread.specs.declared.fault.CertReason.TheVariants as reason
use Rattle.hq_certread.specs.declared.fault.CertFault.{CertFault}
use Rattle.hq_certread.specs.declared.draft.Stage.{Stage}
use Rattle.hq_certread.specs.declared.draft.Stage.TheVariants as stage
use Rattle.hq_certread.specs.LineTests.{head_said, order_said, line_said, pair_said}
use Rattle.hq_certtext.specs.Grammar.{CertText}

-- What the lines so far leave: what may come next, whether chained pair lines may stand, and what was read.
pub record State : Type 0 where
  pub stage : Stage
  pub chained : Bool
  pub order : List ℕ
  pub lines : List model.Line
  pub pairs : List model.Pair

-- before the first line
abbrev pub start : State
start = record { stage = stage.Head; chained = false; order = []; lines = []; pairs = [] }

-- behind the first line
abbrev pub with_head : State → Bool → State
with_head s chained = record
    { stage = stage.Order; chained = chained; order = s.order; lines = s.lines; pairs = s.pairs }

-- behind the order
abbrev pub with_order : State → List ℕ → State
with_order s order = record
    { stage = stage.Lines; chained = s.chained; order = order; lines = s.lines; pairs = s.pairs }

-- with one more line
abbrev pub with_line : State → model.Line → State
with_line s line = record
    { stage = stage.Lines; chained = s.chained; order = s.order; lines = s.lines ++ line ∷ []; pairs = s.pairs }

-- with one more pair line
abbrev pub with_pair : State → model.Pair → State
with_pair s pair = record
    { stage = stage.Pairs; chained = s.chained; order = s.order; lines = s.lines; pairs = s.pairs ++ pair ∷ [] }

-- behind the end
abbrev pub with_end : State → State
with_end s = record { stage = stage.Ended; chained = s.chained; order = s.order; lines = s.lines; pairs = s.pairs }

-- nothing more may come
abbrev pub is_end : Stage → Bool
is_end stage.Head = false
is_end stage.Order = false
is_end stage.Lines = false
is_end stage.Pairs = false
is_end stage.Ended = true

-- the end was read
abbrev pub is_ended : State → Bool
is_ended s = is_end s.stage

-- what is wrong with a text that ends so
abbrev pub unended : State → Option CertReason
unended s = if is_ended s then None else Some reason.NoEnd

-- what was read
abbrev pub read_of : State → model.Certificate
read_of s = record { order = s.order; lines = s.lines; pairs = s.pairs }

-- ---- what a line leaves, or the first test that it fails

-- the first line
unfoldable pub add_head : State → List (List ℕ) → Result State CertReason
add_head s words = head_said words >>= λ chained. Ok (with_head s chained)

-- the order
unfoldable pub add_order : State → List (List ℕ) → Result State CertReason
add_order s words = order_said words >>= λ order. Ok (with_order s order)

-- a line, by the words behind `line`
unfoldable pub add_line : State → List (List ℕ) → Result State CertReason
add_line s words = line_said (length s.lines) words >>= λ line. Ok (with_line s line)

-- a pair line, by the words behind `pair`
unfoldable pub add_pair : State → List (List ℕ) → Result State CertReason
add_pair s words = pair_said s.chained (length s.lines) words >>= λ pair. Ok (with_pair s pair)

-- the end, which is one word
unfoldable pub add_end : State → List (List ℕ) → Result State CertReason
add_end s [] = Ok (with_end s)
add_end s _ = Err reason.Word

-- a pair line or the end
unfoldable pub add_behind : State → List ℕ → List (List ℕ) → Result State CertReason
add_behind s first others = if bytes_eq first (codes "pair") then add_pair s others
    else if bytes_eq first (codes "end") then add_end s others
    else Err reason.Word

-- in a place where lines may stand still, or no more
unfoldable pub add_content : Bool → State → List (List ℕ) → Result State CertReason
add_content lines s [] = Err reason.Word
add_content lines s (first ∷ others) = if bytes_eq first
    (codes "line") && lines then add_line s others else add_behind s first others

-- by what may come next
abbrev pub add_at : Stage → State → List (List ℕ) → Result State CertReason
add_at stage.Head s words = add_head s words
add_at stage.Order s words = add_order s words
add_at stage.Lines s words = add_content true s words
add_at stage.Pairs s words = add_content false s words
add_at stage.Ended s words = Err reason.Word

-- The words are those of a line that has its place behind what is there, and with what it adds, this is.
unfoldable pub added : State → List (List ℕ) → Result State CertReason
added s words = add_at s.stage s words

-- ---- the first fault

-- the fault of a line, counted from 1
abbrev pub at_line : ℕ → CertReason → CertFault
at_line line why = record { line = line; reason = why }

-- The first fault of a text: of the first line that is refused, or that there is no end, told of the line behind
-- the last.
abbrev pub FirstFault : List (List ℕ) → CertFault → Type 0
FirstFault lines f = text.FirstFault added unended start lines f.line f.reason

-- ---- the laws

-- A text is one certificate's.
abbrev pub OneCertificate : Type 0
OneCertificate = (lines : List (List ℕ)) (a b : model.Certificate) → CertText lines a → CertText lines b → a ≡ b

-- A certificate's text has no fault.
abbrev pub FaultlessWhereCertificate : Type 0
FaultlessWhereCertificate = (lines : List (List ℕ)) (c : model.Certificate) (f : CertFault) → CertText lines c
    → FirstFault lines f → ⊥

-- A text has one first fault.
abbrev pub OneFirstFault : Type 0
OneFirstFault = (lines : List (List ℕ)) (f g : CertFault) → FirstFault lines f → FirstFault lines g → f ≡ g

-- Places between the lines that a certificate has behind its order, and the texts between them.
use Rattle.std.specs.Prelude.{◌≡◌, ℕ, ◌≤◌, ◌⊎◌, IfSome, List, [], ◌∷◌, ◌++◌, length, take}
use Rattle.hq_model.specs.Job.{Job}
use Rattle.hq_audit.specs.declared.audited.Audited.{Audited}
use Rattle.hq_audit.specs.Drafted.{listed}
use Rattle.hq_audit.specs.Audited.{lines_in, lists_in}
use Rattle.hq_judging.specs.Giving.{IsBodyText, IsPairsText}
use Rattle.hq_judging.specs.declared.piece.Piece.{Piece}
use Rattle.hq_judging.specs.declared.place.Place.{Place}

-- Such lines and lists are there, and lists of pair lines come behind all lines.
pub record IsPlace (a : Audited) (place : Place) : Type 0 where
  pub within : place.line ≤ length (lines_in a)
  pub listed : place.list ≤ length (lists_in a)
  pub behind : (place.list ≡ 0) ⊎ (place.line ≡ length (lines_in a))

-- the place ahead of all
abbrev pub start_place : Place
start_place = record { line = 0; list = 0 }

-- the place behind all
abbrev pub end_place : Audited → Place
end_place a = record { line = length (lines_in a); list = length (lists_in a) }

-- The second place is the first one, or behind it.
pub record Leads (a : Audited) (p q : Place) : Type 0 where
  pub from : IsPlace a p
  pub to : IsPlace a q
  pub lines : p.line ≤ q.line
  pub lists : p.list ≤ q.list

-- This is the text of the pair lines of the lists from one on, up to another: behind the text of those ahead of them it
-- makes the text of all up to there.
abbrev pub IsListsText : Job → Audited → ℕ → ℕ → List ℕ → Type 0
IsListsText job a from to text = (front : List ℕ) → IsPairsText job a (listed (take from (lists_in a))) front
    → IsPairsText job a (listed (take to (lists_in a))) (front ++ text)

-- This is the text of all that is ahead of a place.
abbrev pub IsTextUpto : Job → Audited → Place → List ℕ → Type 0
IsTextUpto job a place = IsBodyText job a place.line (listed (take place.list (lists_in a)))

-- This is the text between two places: behind that of all ahead of the first it makes that of all ahead of the second.
abbrev pub IsTextBetween : Job → Audited → Place → Place → List ℕ → Type 0
IsTextBetween job a p q text = (front : List ℕ) → IsTextUpto job a p front → IsTextUpto job a q (front ++ text)

-- This is the text of a piece that begins here, where it is printed.
abbrev pub HasText : Job → Audited → Place → Piece → Type 0
HasText job a from piece = IfSome piece.text (λ text. IsTextBetween job a from piece.to text.items)

-- Each of these pieces, the first of which begins here, goes on to where the next one begins, and has its text where it
-- is printed.
abbrev pub ArePieces : Job → Audited → Place → List Piece → Type 0
ArePieces job a from [] = Unit {0}
ArePieces job a from (piece ∷ pieces) = Leads a from piece.to × HasText job a from piece
    × ArePieces job a piece.to pieces

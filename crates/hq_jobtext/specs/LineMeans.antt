-- What the faults mean that a line has by its bytes, words, numbers, digits, packet and size: of the line that they
-- name, and of the tables as the lines before it left them.
use Rattle.std.specs.Prelude.{◌≡◌, ℕ, ◌+◌, ◌⊎◌, ◌↔◌, Bool, false, List, ◌∷◌, ◌++◌, length}
use Rattle.hq_packet.specs.declared.fault.PacketFault.{PacketFault}
use Rattle.hq_lines.specs.LineForms.{HasOutside, HasNoForm, HasWrongNumber, HasWrongDigits, HasRefusedPacket}
use Rattle.hq_lines.specs.LineForms.{HasWrongSize}
use Rattle.hq_lines.specs.Meaning as says
use Rattle.hq_lines.specs.Says.{SaysLine}
use Rattle.hq_tables.specs.declared.fault.Reason.TheVariants as reason
use Rattle.hq_tables.specs.Tables.{Tables, empty}
use Rattle.hq_jobtext.specs.JobText.{SaysVersion, AdmitsAll, IsEnd, FirstFault, at_line}

-- ---- lines and what comes before them

-- The line of this number has admitted lines before it, behind a first line, and of it and the tables that they
-- leave this is so.
pub record Behind (lines : List (List ℕ)) (number : ℕ) (P : Tables → List ℕ → Type 0) : Type 0 where
  pub rings : Bool
  pub first : List ℕ
  pub front : List (List ℕ)
  pub line : List ℕ
  pub rest : List (List ℕ)
  pub tables : Tables
  pub whole : lines ≡ first ∷ (front ++ line ∷ rest)
  pub version : SaysVersion first rings
  pub admitted : AdmitsAll (empty rings) front tables
  pub counted : number ≡ length front + 2
  pub so : P tables line

-- The line of this number is the first and names no version, and of it this is so.
pub record AtHead (lines : List (List ℕ)) (number : ℕ) (P : List ℕ → Type 0) : Type 0 where
  pub line : List ℕ
  pub rest : List (List ℕ)
  pub whole : lines ≡ line ∷ rest
  pub no_version : (rings : Bool) → ¬ SaysVersion line rings
  pub counted : number ≡ 1
  pub so : P line

-- The line of this number stands behind the end, and of it this is so.
pub record BehindEnd (lines : List (List ℕ)) (number : ℕ) (P : List ℕ → Type 0) : Type 0 where
  pub rings : Bool
  pub first : List ℕ
  pub front : List (List ℕ)
  pub last : List ℕ
  pub line : List ℕ
  pub rest : List (List ℕ)
  pub tables : Tables
  pub whole : lines ≡ first ∷ (front ++ last ∷ line ∷ rest)
  pub version : SaysVersion first rings
  pub admitted : AdmitsAll (empty rings) front tables
  pub ends : IsEnd last
  pub counted : number ≡ length front + 3
  pub so : P line

-- The line of this number has no place where it stands, and of it this is so.
abbrev pub HasNoPlace : List (List ℕ) → ℕ → (List ℕ → Type 0) → Type 0
HasNoPlace lines number P = AtHead lines number P ⊎ BehindEnd lines number P

-- a `to` line, where queues are no rings
abbrev pub TurnsWithoutRings : Tables → List ℕ → Type 0
TurnsWithoutRings ts line = (name : List ℕ) × SaysLine line (says.To name) × (ts.rings ≡ false)

-- ---- the laws

-- J1 is the first fault exactly where the line that it names has a byte out of range.
abbrev pub ByteMeans : Type 0
ByteMeans = (lines : List (List ℕ)) (number : ℕ) → FirstFault lines (at_line number reason.Byte)
    ↔ (HasNoPlace lines number HasOutside ⊎ Behind lines number (λ ts line. HasOutside line))

-- J2: the line has no place where it stands; or its words have no form, or it is a `to` line where queues are no rings.
abbrev pub WordMeans : Type 0
WordMeans = (lines : List (List ℕ)) (number : ℕ)
    → FirstFault lines (at_line number reason.Word)
    ↔ (HasNoPlace lines number (λ line. ¬ HasOutside line)
    ⊎ Behind lines number (λ ts line. HasNoForm line ⊎ TurnsWithoutRings ts line))

-- J3: the words have a form, but one of the numbers is none, or out of its range.
abbrev pub NumberMeans : Type 0
NumberMeans = (lines : List (List ℕ)) (number : ℕ) → FirstFault lines (at_line number reason.Number)
    ↔ Behind lines number (λ ts line. HasWrongNumber line)

-- J8: the digits spell 64 bytes that are no packet, with this first fault.
abbrev pub PacketMeans : Type 0
PacketMeans = (lines : List (List ℕ)) (number : ℕ) (f : PacketFault)
    → FirstFault lines (at_line number (reason.Packet f)) ↔ Behind lines number (λ ts line. HasRefusedPacket line f)

-- J9: the line is right up to its digits.
abbrev pub HexMeans : Type 0
HexMeans = (lines : List (List ℕ)) (number : ℕ) → FirstFault lines (at_line number reason.Hex)
    ↔ Behind lines number (λ ts line. HasWrongDigits line)

-- J10: the line is a queue's, and right but for the size.
abbrev pub QueueSizeMeans : Type 0
QueueSizeMeans = (lines : List (List ℕ)) (number : ℕ) → FirstFault lines (at_line number reason.QueueSize)
    ↔ Behind lines number (λ ts line. HasWrongSize line)

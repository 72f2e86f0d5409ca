-- What rewriting asks of the lines of a text, and what each step of it appends.
use Rattle.std.specs.Prelude.{◌≡◌, ℕ, ◌<◌, List, [], ◌∷◌, ◌++◌, length, All}
use Rattle.hq_packet.specs.declared.packet.Head.{Head}
use Rattle.hq_lines.specs.Heads.{IsPacketLine, BeginsPacket}

-- Whether a line is a packet's can be told by how it begins. The packets of this line and of those behind it have these
-- numbers, and the packets of those behind it alone the last ones.
pub data LineNumbered (numbers : List ℕ) (line behind : List ℕ) : Type 0 where
  no_packet : ¬ BeginsPacket line → behind ≡ numbers → LineNumbered numbers line behind
  a_packet : IsPacketLine line → (number : ℕ) → numbers ≡ number ∷ behind → LineNumbered numbers line behind

-- So it is of all of these lines, whose packets have these numbers in the order of the lines.
abbrev pub Numbered : List ℕ → List (List ℕ) → Type 0
Numbered numbers [] = numbers ≡ []
Numbered numbers (line ∷ lines) = (behind : List ℕ) × LineNumbered numbers line behind × Numbered behind lines

-- what is asked of a line and of the numbers of the packets from it on
pub record LineReady (heads : List Head) (numbers : List ℕ) (line : List ℕ) : Type 0 where
  pub says_packet : BeginsPacket line → IsPacketLine line
  pub has_number : BeginsPacket line → 0 < length numbers
  pub have_heads : All (λ n. n < length heads) numbers

-- bytes of which this is so were appended
pub record Appended (P : List ℕ → Type 0) (old new : List ℕ) : Type 0 where
  pub bytes : List ℕ
  pub is : new ≡ old ++ bytes
  pub so : P bytes

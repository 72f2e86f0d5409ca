-- The line of a packet, and the same line with another head on its packet.
use Rattle.std.specs.Prelude.{◌≡◌, ◌≢◌, ◌↔◌, ℕ, List, [], ◌∷◌, ◌++◌, take, drop, codes}
use Rattle.hex.specs.Hex.{encode_lower}
use Rattle.hq_packet.specs.declared.packet.Head.{Head}
use Rattle.hq_packet.specs.declared.packet.Packet as packet
use Rattle.hq_packet.specs.Parts.{head_of, with_head}
use Rattle.hq_packet.specs.HeadByte.{head_byte}
use Rattle.hq_lines.specs.Meaning.{Meaning, Packet}
use Rattle.hq_lines.specs.Says.{SaysLine}

-- the line says a packet
abbrev pub IsPacketLine : List ℕ → Type 0
IsPacketLine line = (p : packet.Packet) × SaysLine line (Packet p)

-- it begins as those do that say one
abbrev pub BeginsPacket : List ℕ → Type 0
BeginsPacket line = (rest : List ℕ) × (line ≡ codes "packet " ++ rest)

-- The line with the digits of this head's byte, in lower case, and all else as it was. They stand behind `packet ` and
-- the two digits of the packet's first byte.
abbrev pub with_head_digits : List ℕ → Head → List ℕ
with_head_digits line head = take 9 line ++ encode_lower (head_byte head ∷ []) ++ drop 11 line

-- The line says a packet, and the new one is the line for the packet with this head: the same line where the packet has
-- that head.
pub record WithHead (line : List ℕ) (head : Head) (new : List ℕ) : Type 0 where
  pub sent : packet.Packet
  pub says_it : SaysLine line (Packet sent)
  pub kept : head_of sent ≡ head → new ≡ line
  pub changed : head_of sent ≢ head → new ≡ with_head_digits line head

-- ---- the laws

-- The line for a packet with a head says the packet with that head.
abbrev pub SaysWithHead : Type 0
SaysWithHead = (line : List ℕ) (head : Head) (new : List ℕ) (w : WithHead line head new)
    → SaysLine new (Packet (with_head w.sent head))

-- A line that says something begins as packet lines do exactly where it says a packet.
abbrev pub PacketsBegin : Type 0
PacketsBegin = (line : List ℕ) (m : Meaning) → SaysLine line m → (IsPacketLine line ↔ BeginsPacket line)

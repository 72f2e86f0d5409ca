-- What holds between packets and their spellings.
use Rattle.std.specs.Prelude.{◌≡◌, ℕ, List, None, slice_index}
use Rattle.hq_packet.specs.declared.packet.Head.{Head}
use Rattle.hq_packet.specs.declared.packet.Packet.{Packet}
use Rattle.hq_packet.specs.PacketText.{PacketText}
use Rattle.hq_packet.specs.Faults.{first_fault}
use Rattle.hq_packet.specs.Parts.{head_of, with_head}
use Rattle.hq_packet.specs.HeadByte.{head_byte, with_head_byte}

-- A packet has one spelling.
abbrev pub OneSpelling : Type 0
OneSpelling = (a b : List ℕ) (p : Packet) → PacketText a p → PacketText b p → a ≡ b

-- Bytes spell one packet.
abbrev pub OnePacket : Type 0
OnePacket = (bytes : List ℕ) (p q : Packet) → PacketText bytes p → PacketText bytes q → p ≡ q

-- Bytes that spell a packet have no fault.
abbrev pub FaultlessWhereSpelled : Type 0
FaultlessWhereSpelled = (bytes : List ℕ) (p : Packet) → PacketText bytes p → first_fault bytes ≡ None

-- In bytes that spell a packet the byte of its head stands second.
abbrev pub HeadStandsSecond : Type 0
HeadStandsSecond = (bytes : List ℕ) (p : Packet) → PacketText bytes p → slice_index bytes 1 ≡ head_byte (head_of p)

-- A byte is that of one head.
abbrev pub OneHead : Type 0
OneHead = (g h : Head) → head_byte g ≡ head_byte h → g ≡ h

-- Where bytes spell a packet, with the byte of another head they spell the packet with that head.
abbrev pub AnotherHead : Type 0
AnotherHead = (bytes : List ℕ) (p : Packet) (head : Head) → PacketText bytes p
    → PacketText (with_head_byte bytes head) (with_head p head)

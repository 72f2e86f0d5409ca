-- The byte of a packet that says its head: the second, since the header is a number of two bytes with the lowest first,
-- and the lowest is the format alone (HSA Platform System Architecture Specification 1.2, "Packet header").
use Rattle.std.specs.Prelude.{ℕ, ◌+◌, ◌*◌, ◌^◌, List, slice_set, if◌then◌else◌}
use Rattle.hq_packet.specs.declared.packet.Head.{Head}
use Rattle.hq_packet.specs.PacketText.{scope_code}

-- bit 0 barrier, bits 2:1 acquire, bits 4:3 release, the rest zero: the upper byte of `header`
abbrev pub head_byte : Head → ℕ
head_byte head = (if head.barrier then 1 else 0) + 2 * scope_code head.acquire + 2 ^ 3 * scope_code head.release

-- the bytes with the byte of this head, and all others as they were
abbrev pub with_head_byte : List ℕ → Head → List ℕ
with_head_byte bytes head = slice_set bytes 1 (head_byte head)
